use Rattle.std.proofs.Common.{◌∙◌, ap}
use Rattle.leaf_dispatch.specs.States.{seen_of}
use Rattle.leaf_dispatch.specs.declared.states.LpState.{LpState}
use Rattle.run_texts.proofs.Replayed.{lines-next}
use Rattle.run_texts.proofs.replay.all_lines.Goals as goal

pub loop-lp-preserved : goal.loop-lp-preserved
loop-lp-preserved c =
    rw c.in-Ok.ensures.items
    (lines-next c.args.lps.now c.loop-lp.lp c.index-lps-lp.result c.loop-lp.text.items c.deref.result.now _ _ c.loop-lp-test.true (c.replies.ensures ∙ ap (λ (s : LpState). (seen_of s).replies) c.index-lps-lp.is) (c.deref.ensures.value ∙ c.in_ok-lines.ensures) c.loop-lp.invariant)
