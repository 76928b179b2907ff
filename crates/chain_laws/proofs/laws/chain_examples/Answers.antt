use Rattle.chain_laws.proofs.Worked.{chain_examples}
use Rattle.chain_laws.proofs.laws.chain_examples.Goals as goal

pub returns : goal.returns
returns c = chain_examples
