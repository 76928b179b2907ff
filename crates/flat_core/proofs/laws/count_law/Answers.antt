use Rattle.flat_core.proofs.Counted.{are_counted, counts_kept, exported_are_counted}
use Rattle.flat_core.proofs.laws.count_law.Goals as goal

pub returns-clause-lawful : goal.returns-clause-lawful
returns-clause-lawful c = are_counted

pub returns-clause-kept : goal.returns-clause-kept
returns-clause-kept c = counts_kept

pub returns-clause-run : goal.returns-clause-run
returns-clause-run c = exported_are_counted
