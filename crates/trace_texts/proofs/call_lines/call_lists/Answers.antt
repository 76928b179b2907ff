use Rattle.std.proofs.Common.{◌-◌, ◌+◌, arith}
use Rattle.trace_texts.proofs.Lists.{lists-next}
use Rattle.trace_texts.proofs.call_lines.call_lists.Goals as goal

pub loop-lp-preserved : goal.loop-lp-preserved
loop-lp-preserved c =
    rw c.in-Ok-push.ensures.items
    (lists-next c.args.text.now c.loop-lp.lists.items c.in-Ok.list c.loop-lp.lp (c.args.lps - (c.loop-lp.lp + 1)) (c.args.lps - c.loop-lp.lp) _ (omega (arith, c.loop-lp-test.true)) c.in-Ok.ensures c.loop-lp.invariant)
