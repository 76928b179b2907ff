use Rattle.flat_core.proofs.BlindOperations.{operations_are_blind}
use Rattle.flat_core.proofs.TwoEvents.{events_are_blind}
use Rattle.flat_core.proofs.Telling.{event_grows}
use Rattle.flat_core.proofs.laws.alike_laws.Goals as goal

pub returns-clause-operations : goal.returns-clause-operations
returns-clause-operations c = operations_are_blind

pub returns-clause-events : goal.returns-clause-events
returns-clause-events c = events_are_blind

pub returns-clause-told : goal.returns-clause-told
returns-clause-told c = event_grows
