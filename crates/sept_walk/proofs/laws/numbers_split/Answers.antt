use Rattle.sept_walk.proofs.Meets.{split}
use Rattle.sept_walk.proofs.laws.numbers_split.Goals as goal

pub returns : goal.returns
returns c = split
