use Rattle.flat_core.proofs.Caches.{caches_kept, caches_small, room_is_used}
use Rattle.flat_core.proofs.laws.cache_law.Goals as goal

pub returns-clause-kept : goal.returns-clause-kept
returns-clause-kept c = caches_kept

pub returns-clause-run : goal.returns-clause-run
returns-clause-run c = caches_small

pub returns-clause-room : goal.returns-clause-room
returns-clause-room c = room_is_used
