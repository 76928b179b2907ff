use Rattle.mig_laws.proofs.Once.{taken_are_spent, no_bundle_is_taken_twice}
use Rattle.mig_laws.proofs.laws.once_law.Goals as goal

pub returns-clause-kept : goal.returns-clause-kept
returns-clause-kept c = taken_are_spent

pub returns-clause-runs : goal.returns-clause-runs
returns-clause-runs c = no_bundle_is_taken_twice
