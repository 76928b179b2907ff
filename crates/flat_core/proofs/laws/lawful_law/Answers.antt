use Rattle.flat_core.proofs.Kept.{events_keep}
use Rattle.flat_core.proofs.Ends.{timeliness_kept}
use Rattle.flat_core.proofs.EveryWorld.{every_lawful}
use Rattle.flat_core.proofs.laws.lawful_law.Goals as goal

pub returns-clause-kept : goal.returns-clause-kept
returns-clause-kept c = timeliness_kept

pub returns-clause-event : goal.returns-clause-event
returns-clause-event c = events_keep

pub returns-clause-run : goal.returns-clause-run
returns-clause-run c = every_lawful
