use Rattle.std.proofs.Common.{length}
use Rattle.leaf_dispatch.proofs.rooms.+most_reports.Given as goal

abbrev pub decreases-most_reports : goal.decreases-most_reports
decreases-most_reports l = length l.codes.now
