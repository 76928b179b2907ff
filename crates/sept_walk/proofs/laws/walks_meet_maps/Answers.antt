use Rattle.sept_walk.proofs.Meets.{meets}
use Rattle.sept_walk.proofs.laws.walks_meet_maps.Goals as goal

pub returns : goal.returns
returns c = meets
