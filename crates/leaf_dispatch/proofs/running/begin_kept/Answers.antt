use Rattle.std.proofs.Common.{inr}
use Rattle.leaf_dispatch.proofs.running.begin_kept.Goals as goal

pub returns-clause-takes : goal.returns-clause-takes
returns-clause-takes c = (c.begin.ensures.takes, inr c.begin.ensures.first)
