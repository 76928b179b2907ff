use Rattle.flat_core.proofs.LockLaw.{exclusion_kept, locks_exclude}
use Rattle.flat_core.proofs.laws.lock_law.Goals as goal

pub returns-clause-kept : goal.returns-clause-kept
returns-clause-kept c = exclusion_kept

pub returns-clause-run : goal.returns-clause-run
returns-clause-run c = locks_exclude
