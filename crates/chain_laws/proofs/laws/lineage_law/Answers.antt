use Rattle.chain_laws.proofs.Lineages.{at_most_one, at_most_one_of_two}
use Rattle.chain_laws.proofs.laws.lineage_law.Goals as goal

pub returns-clause-one : goal.returns-clause-one
returns-clause-one c = at_most_one

pub returns-clause-two : goal.returns-clause-two
returns-clause-two c = at_most_one_of_two
