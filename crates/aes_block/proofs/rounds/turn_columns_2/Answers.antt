use Rattle.std.proofs.Common.{◌∷◌, [], ap}
use Rattle.aes_block.specs.Planes.{byte8}
use Rattle.aes_block.proofs.rounds.turn_columns_2.Goals as goal

pub returns : goal.returns
returns c p i h = ap byte8 (λ j. c.turn_lanes_2-p0.ensures p i h j ∷ c.turn_lanes_2-p1.ensures p i h j ∷ c.turn_lanes_2-p2.ensures p i h j ∷ c.turn_lanes_2-p3.ensures p i h j ∷ c.turn_lanes_2-p4.ensures p i h j ∷ c.turn_lanes_2-p5.ensures p i h j ∷ c.turn_lanes_2-p6.ensures p i h j ∷ c.turn_lanes_2-p7.ensures p i h j ∷ [])
