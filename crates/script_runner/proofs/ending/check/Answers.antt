use Rattle.std.proofs.Common.{◌∙◌, ap, map, arith}
use Rattle.script_text.specs.Seen.{ScriptSeen}
use Rattle.script_runner.proofs.Counts.{calls-fit, ops-fit}
use Rattle.script_runner.proofs.ending.check.Goals as goal

pub count_calls-calls-requires : goal.count_calls-calls-requires
count_calls-calls-requires c =
    calls-fit c.args.script.now (map (λ list. list.items) c.deref.result.now) c.requires (ap (map (λ list. list.items)) c.deref.ensures.value ∙ ap (λ (s : ScriptSeen). s.calls) c.script.view_is)

pub count_ops-ops-requires : goal.count_ops-ops-requires
count_ops-ops-requires c =
    ops-fit c.args.script.now c.deref-2.result.now c.requires (c.deref-2.ensures.value ∙ ap (λ (s : ScriptSeen). s.codes) c.script.view_is) (omega (arith, c.deref-2.ensures.len))
