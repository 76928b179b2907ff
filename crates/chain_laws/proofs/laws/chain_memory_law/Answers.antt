use Rattle.chain_laws.proofs.Memories.{chain_memories_hold, loads_are_of_the_chain}
use Rattle.chain_laws.proofs.laws.chain_memory_law.Goals as goal

pub returns-clause-memories : goal.returns-clause-memories
returns-clause-memories c = chain_memories_hold

pub returns-clause-loads : goal.returns-clause-loads
returns-clause-loads c = loads_are_of_the_chain
