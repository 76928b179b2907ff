use Rattle.mig_laws.proofs.Paused.{pauses_kept, started_are_sent}
use Rattle.mig_laws.proofs.laws.pause_law.Goals as goal

pub returns-clause-kept : goal.returns-clause-kept
returns-clause-kept c = pauses_kept

pub returns-clause-runs : goal.returns-clause-runs
returns-clause-runs c = started_are_sent
