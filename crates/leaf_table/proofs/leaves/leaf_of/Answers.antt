use Rattle.std.proofs.Common.{◌∙◌, sym, ap}
use Rattle.leaf_table.specs.Given.{given_in}
use Rattle.leaf_table.specs.Table.{task_of}
use Rattle.leaf_table.proofs.leaves.leaf_of.Goals as goal

pub returns-in-Some-clause-task : goal.returns-in-Some-clause-task
returns-in-Some-clause-task c = c.leaf.ensures.task ∙ sym (ap (task_of (given_in c.args.given) c.args.place) c.in-ExportMem.is)
