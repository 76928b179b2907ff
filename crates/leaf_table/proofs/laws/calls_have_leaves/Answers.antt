use Rattle.leaf_table.proofs.Calls.{calls-have-leaves}
use Rattle.leaf_table.proofs.laws.calls_have_leaves.Goals as goal

pub returns : goal.returns
returns c = calls-have-leaves
