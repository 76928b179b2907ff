use Rattle.flat_core.proofs.Measured.{mrtds_kept, every_mrtd, events_measure}
use Rattle.flat_core.proofs.Rtmrs.{events_extend}
use Rattle.flat_core.proofs.laws.measurement_laws.Goals as goal

pub returns-clause-kept : goal.returns-clause-kept
returns-clause-kept c = mrtds_kept

pub returns-clause-mrtd : goal.returns-clause-mrtd
returns-clause-mrtd c = every_mrtd

pub returns-clause-events : goal.returns-clause-events
returns-clause-events c = events_measure

pub returns-clause-rtmrs : goal.returns-clause-rtmrs
returns-clause-rtmrs c = events_extend
