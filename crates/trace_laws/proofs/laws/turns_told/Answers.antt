use Rattle.trace_laws.proofs.Told.{turns-are-told}
use Rattle.trace_laws.proofs.laws.turns_told.Goals as goal

pub returns : goal.returns
returns c = turns-are-told c.leaves_follow.ensures c.processors_follow.ensures c.merge_law.ensures
