use Rattle.std.proofs.Common.{◌≡◌, ◌∙◌, ◌+◌, ◌∷◌, ◌++◌, [], ap, length, List, arith}
use Rattle.td_words.specs.declared.replies.Reply.{Reply}
use Rattle.leaf_dispatch.specs.States.{seen_of}
use Rattle.leaf_table.specs.Table.{code_in}
use Rattle.trace_lines.specs.declared.traces.What.{What}
use Rattle.trace_lines.specs.declared.traces.Traced.{Traced}
use Rattle.trace_lines.specs.Traces.{reply_behind}
use Rattle.trace_laws.specs.Told.{event_told, told, turn_told}
use Rattle.trace_runs.specs.Tracing.{act_by}
use Rattle.trace_runs.proofs.Telling.{act_due}
use Rattle.trace_runs.proofs.Tracing.{told-next}
use Rattle.trace_runs.proofs.turns.TellingOnlooker.turn.Goals as goal

pub returns : goal.returns
returns c =
    let old = seen_of c.args.state.now in
    let new = seen_of c.turn.new.self in
    let had = c.replies-before.ensures in
    let what : c.event_told.result ≡ told (code_in c.args.state.now.codes.now) old c.in-Moved.event =
    c.event_told.ensures ∙ ap (λ (a : What). event_told a c.in-Moved.event) (c.act_by-act.ensures ∙ (ap act_by c.next_step.ensures ∙ act_due (code_in c.args.state.now.codes.now) old)) in
    let reply =
    c.reply_behind.ensures ∙ (ap (λ (rs : List Reply). reply_behind (length c.replies-before.result.now) rs) c.replies.ensures ∙ ap (λ (rs : List Reply). reply_behind (length rs) new.replies) had) in
    let number : c.len.result + 1 ≡ length c.args.told.now.items + 1 = omega (arith, c.len.ensures, ap length c.in-Ok.ensures.items) in
    let x : Traced = record { number = c.len.result + 1; lp = c.args.lp; line = length c.replies-before.result.now + 1; what = c.event_told.result; reply = c.reply_behind.result } in
    let is : x ≡ turn_told (code_in c.args.state.now.codes.now) (length c.args.told.now.items + 1) c.args.lp old new c.in-Moved.event =
    λ i. record { number = number i; lp = c.args.lp; line = ap (λ (rs : List Reply). length rs + 1) had i; what = what i; reply = reply i } in
    let more = c.in-Ok-push.ensures.items ∙ ap (λ (ts : List Traced). ts ++ x ∷ []) c.in-Ok.ensures.items in (
      c.in-Moved.event,
      (c.in-Moved.ensures.turned, c.in-Moved.ensures.ended),
      λ o schedule s items next h. told-next c.turns_told.ensures o schedule s items c.args.lp c.args.state.now c.turn.new.self c.in-Moved.event c.args.told.now c.push.new.self x is more next h,
    )
