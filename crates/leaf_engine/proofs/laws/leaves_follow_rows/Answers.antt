use Rattle.leaf_engine.proofs.Following.{leaves-follow-rows}
use Rattle.leaf_engine.proofs.laws.leaves_follow_rows.Goals as goal

pub returns : goal.returns
returns c = leaves-follow-rows
