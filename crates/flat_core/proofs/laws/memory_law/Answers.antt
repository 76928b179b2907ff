use Rattle.flat_core.proofs.Memories.{memories_kept, guests_know}
use Rattle.flat_core.proofs.laws.memory_law.Goals as goal

pub returns-clause-kept : goal.returns-clause-kept
returns-clause-kept c = memories_kept

pub returns-clause-run : goal.returns-clause-run
returns-clause-run c = guests_know
