use Rattle.td_laws.proofs.Entries.{events_move_entries}
use Rattle.td_laws.proofs.laws.entry_events.Goals as goal

pub returns : goal.returns
returns c = events_move_entries
