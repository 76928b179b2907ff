use Rattle.flat_bundles.proofs.Ended.{ended_stay, all_have_ended, others_have_ended}
use Rattle.flat_bundles.proofs.OwnEnded.{own_have_ended}
use Rattle.flat_bundles.proofs.laws.ended_law.Goals as goal

pub returns-clause-stay : goal.returns-clause-stay
returns-clause-stay c = ended_stay

pub returns-clause-end : goal.returns-clause-end
returns-clause-end c = all_have_ended

pub returns-clause-others : goal.returns-clause-others
returns-clause-others c = others_have_ended

pub returns-clause-own : goal.returns-clause-own
returns-clause-own c = own_have_ended
