use Rattle.map_laws.proofs.Leaves.{leaves-walk}
use Rattle.map_laws.proofs.laws.leaves_walk.Goals as goal

pub returns : goal.returns
returns c = leaves-walk
