use Rattle.flat_core.proofs.Told.{told_are_merged, operations_tell_both}
use Rattle.flat_core.proofs.laws.told_law.Goals as goal

pub returns-clause-merged : goal.returns-clause-merged
returns-clause-merged c = told_are_merged

pub returns-clause-both : goal.returns-clause-both
returns-clause-both c = operations_tell_both
