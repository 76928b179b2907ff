use Rattle.std.proofs.Common.{◌∷◌, [], ap}
use Rattle.aes_block.specs.Planes.{byte8}
use Rattle.aes_block.proofs.rounds.turn_columns_1.Goals as goal

pub returns : goal.returns
returns c p i h = ap byte8 (λ j. c.turn_lanes_1-p0.ensures p i h j ∷ c.turn_lanes_1-p1.ensures p i h j ∷ c.turn_lanes_1-p2.ensures p i h j ∷ c.turn_lanes_1-p3.ensures p i h j ∷ c.turn_lanes_1-p4.ensures p i h j ∷ c.turn_lanes_1-p5.ensures p i h j ∷ c.turn_lanes_1-p6.ensures p i h j ∷ c.turn_lanes_1-p7.ensures p i h j ∷ [])
