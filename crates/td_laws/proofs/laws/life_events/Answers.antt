use Rattle.td_laws.proofs.Asked.{rows_ask_for_lives}
use Rattle.td_laws.proofs.Ops.{calls_come_in_their_lives, events_lead_lives, events_move_lives}
use Rattle.td_laws.proofs.laws.life_events.Goals as goal

pub returns-clause-ask : goal.returns-clause-ask
returns-clause-ask c = rows_ask_for_lives

pub returns-clause-come : goal.returns-clause-come
returns-clause-come c = calls_come_in_their_lives

pub returns-clause-lead : goal.returns-clause-lead
returns-clause-lead c = events_lead_lives

pub returns-clause-moves : goal.returns-clause-moves
returns-clause-moves c = events_move_lives
