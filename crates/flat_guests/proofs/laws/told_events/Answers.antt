use Rattle.flat_guests.proofs.Told.{events_tell_theirs}
use Rattle.flat_guests.proofs.laws.told_events.Goals as goal

pub returns : goal.returns
returns c = events_tell_theirs
