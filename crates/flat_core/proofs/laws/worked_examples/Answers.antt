use Rattle.flat_core.proofs.Worked.{examples}
use Rattle.flat_core.proofs.ImportWorked.{import_examples}
use Rattle.flat_core.proofs.ListWorked.{list_examples}
use Rattle.flat_core.proofs.laws.worked_examples.Goals as goal

pub returns-clause-runs : goal.returns-clause-runs
returns-clause-runs c = examples

pub returns-clause-imports : goal.returns-clause-imports
returns-clause-imports c = import_examples

pub returns-clause-lists : goal.returns-clause-lists
returns-clause-lists c = list_examples
