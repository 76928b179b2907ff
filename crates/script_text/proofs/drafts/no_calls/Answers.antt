use Rattle.std.proofs.Common.{refl}
use Rattle.script_text.proofs.Calls.{one_more}
use Rattle.script_text.proofs.drafts.no_calls.Goals as goal

pub loop-lp-init : goal.loop-lp-init
loop-lp-init c = rw c.new-calls.ensures.items refl

pub loop-lp-preserved : goal.loop-lp-preserved
loop-lp-preserved c =
    one_more c.loop-lp.calls.items c.push.new.self.items c.new.result c.loop-lp._lp c.in_ok-push.ensures.items c.new.ensures.items c.loop-lp.invariant
