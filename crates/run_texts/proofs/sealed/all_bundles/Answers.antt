use Rattle.std.proofs.Common.{◌∙◌, ap}
use Rattle.leaf_dispatch.specs.Ended.{ended_in, ended_seen}
use Rattle.leaf_dispatch.specs.States.{seen_of}
use Rattle.leaf_dispatch.specs.declared.states.LpState.{LpState}
use Rattle.run_texts.proofs.Making.{bundles-next}
use Rattle.run_texts.proofs.sealed.all_bundles.Goals as goal

pub loop-lp-preserved : goal.loop-lp-preserved
loop-lp-preserved c =
    rw c.in_ok-add_bundles.ensures
    (bundles-next c.args.lps.now c.loop-lp.lp c.index-lps-lp.result c.loop-lp.all.items _ (ended_seen c.bundles.result) c.loop-lp-test.true (c.bundles.ensures ∙ ap (λ (s : LpState). ended_in (seen_of s)) c.index-lps-lp.is) c.loop-lp.invariant)
