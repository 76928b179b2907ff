use Rattle.std.proofs.Common.{length}
use Rattle.leaf_dispatch.proofs.rooms.+longest.Given as goal

abbrev pub decreases-longest : goal.decreases-longest
decreases-longest l = length l.codes.now
