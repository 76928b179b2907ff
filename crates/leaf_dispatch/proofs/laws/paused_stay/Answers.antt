use Rattle.leaf_dispatch.proofs.Pausing.{paused-stay}
use Rattle.leaf_dispatch.proofs.laws.paused_stay.Goals as goal

pub returns : goal.returns
returns c = paused-stay
