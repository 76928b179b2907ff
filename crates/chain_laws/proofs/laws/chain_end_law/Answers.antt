use Rattle.chain_laws.proofs.Ends.{chains_end}
use Rattle.chain_laws.proofs.laws.chain_end_law.Goals as goal

pub returns : goal.returns
returns c = chains_end
