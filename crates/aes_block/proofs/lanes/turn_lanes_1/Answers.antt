use Rattle.std.proofs.Common.{[], ◌∷◌, refl}
use Rattle.aes_block.specs.Planes.{turned}
use Rattle.aes_block.proofs.Bits.{lane_bit_picked}
use Rattle.aes_block.proofs.Sixteen.{below_sixteen}
use Rattle.aes_block.proofs.lanes.turn_lanes_1.Goals as goal

pub returns : goal.returns
returns c p i h = lane_bit_picked c.args.v c.fits-v.0 (1 ∷ 2 ∷ 3 ∷ 0 ∷ 5 ∷ 6 ∷ 7 ∷ 4 ∷ 9 ∷ 10 ∷ 11 ∷ 8 ∷ 13 ∷ 14 ∷ 15 ∷ 12 ∷ []) tt (turned 1) (below_sixteen _ refl refl refl refl refl refl refl refl refl refl refl refl refl refl refl refl) p h i
