use Rattle.mig_laws.proofs.Destination.{destination_kept, starts_from_its_pause}
use Rattle.mig_laws.proofs.image.image_law.Goals as goal

pub returns-clause-kept : goal.returns-clause-kept
returns-clause-kept c = destination_kept

pub returns-clause-runs : goal.returns-clause-runs
returns-clause-runs c = starts_from_its_pause
