use Rattle.access_core.specs.AcceptReach.{pending-is-unreached, pending-may-be-filled}
use Rattle.access_core.proofs.laws.pending_is_unreached.Goals as goal

pub returns-clause-reach : goal.returns-clause-reach
returns-clause-reach c = pending-is-unreached

pub returns-clause-fill : goal.returns-clause-fill
returns-clause-fill c = pending-may-be-filled
