use Rattle.flat_laws.proofs.Worked.{removal_example}
use Rattle.flat_laws.proofs.laws.worked_removal.Goals as goal

pub returns : goal.returns
returns c = removal_example
