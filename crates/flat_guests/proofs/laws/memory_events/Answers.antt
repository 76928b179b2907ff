use Rattle.flat_guests.proofs.Memory.{events_remember}
use Rattle.flat_guests.proofs.laws.memory_events.Goals as goal

pub returns : goal.returns
returns c = events_remember
