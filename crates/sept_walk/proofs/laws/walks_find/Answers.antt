use Rattle.sept_walk.proofs.Ends.{walks}
use Rattle.sept_walk.proofs.laws.walks_find.Goals as goal

pub returns : goal.returns
returns c = walks
