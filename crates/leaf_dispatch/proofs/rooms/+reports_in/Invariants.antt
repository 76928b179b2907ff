use Rattle.std.proofs.Common.{length}
use Rattle.leaf_dispatch.proofs.rooms.+reports_in.Given as goal

abbrev pub decreases-reports_in : goal.decreases-reports_in
decreases-reports_in l = length l.ops.now
