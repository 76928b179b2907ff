use Rattle.td_laws.proofs.Asked.{rows_ask_for_ops}
use Rattle.td_laws.proofs.Ops.{calls_come_in_their_ops, events_lead_ops, events_move_ops, failed_imports_stay}
use Rattle.td_laws.proofs.laws.op_events.Goals as goal

pub returns-clause-ask : goal.returns-clause-ask
returns-clause-ask c = rows_ask_for_ops

pub returns-clause-come : goal.returns-clause-come
returns-clause-come c = calls_come_in_their_ops

pub returns-clause-lead : goal.returns-clause-lead
returns-clause-lead c = events_lead_ops

pub returns-clause-moves : goal.returns-clause-moves
returns-clause-moves c = events_move_ops

pub returns-clause-failed : goal.returns-clause-failed
returns-clause-failed c = failed_imports_stay
