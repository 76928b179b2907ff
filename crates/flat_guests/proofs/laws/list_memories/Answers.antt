use Rattle.flat_guests.proofs.Memory.{lists_remember}
use Rattle.flat_guests.proofs.laws.list_memories.Goals as goal

pub returns : goal.returns
returns c = lists_remember
