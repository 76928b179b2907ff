use Rattle.flat_core.proofs.Keeps.{row-keeps}
use Rattle.flat_core.proofs.Blind.{row-blind}
use Rattle.flat_core.proofs.Mrtd.{mrtd_is_the_digest, records_are_measured}
use Rattle.flat_core.proofs.OneUse.{one_use, events_keep_uses}
use Rattle.flat_core.proofs.laws.row_laws.Goals as goal

pub returns-clause-keep : goal.returns-clause-keep
returns-clause-keep c = row-keeps

pub returns-clause-blind : goal.returns-clause-blind
returns-clause-blind c = row-blind

pub returns-clause-mrtd : goal.returns-clause-mrtd
returns-clause-mrtd c = mrtd_is_the_digest

pub returns-clause-records : goal.returns-clause-records
returns-clause-records c = records_are_measured

pub returns-clause-one_use : goal.returns-clause-one_use
returns-clause-one_use c = one_use

pub returns-clause-uses : goal.returns-clause-uses
returns-clause-uses c = events_keep_uses
