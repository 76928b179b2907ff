use Rattle.worked_merges.proofs.Worked.{examples}
use Rattle.worked_merges.proofs.laws.worked_merges.Goals as goal

pub returns : goal.returns
returns c = examples c.merge_law.ensures c.calls_have_leaves.ensures
