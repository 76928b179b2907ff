use Rattle.leaf_engine.proofs.Pieces.{turns-in-pieces}
use Rattle.leaf_engine.proofs.laws.turns_in_pieces.Goals as goal

pub returns : goal.returns
returns c = turns-in-pieces
