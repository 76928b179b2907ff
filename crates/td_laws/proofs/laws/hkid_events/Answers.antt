use Rattle.td_laws.proofs.Keys.{events_change_keys, hkids_go_round}
use Rattle.td_laws.proofs.laws.hkid_events.Goals as goal

pub returns-clause-change : goal.returns-clause-change
returns-clause-change c = events_change_keys

pub returns-clause-round : goal.returns-clause-round
returns-clause-round c = hkids_go_round
