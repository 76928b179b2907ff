use Rattle.std.proofs.Common.{sym}
use Rattle.leaf_dispatch.specs.Ended.{ended_seen}
use Rattle.run_texts.proofs.Making.{one-more}
use Rattle.run_texts.proofs.sealed.add_bundles.Goals as goal

pub loop-i-preserved : goal.loop-i-preserved
loop-i-preserved c = rw c.in-Ok.ensures.items (one-more (ended_seen c.args.bundles) c.loop-i.i _ c.loop-i.all.items _ (sym c.in-Some.ensures) c.loop-i.invariant)
