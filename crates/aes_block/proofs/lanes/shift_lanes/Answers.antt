use Rattle.std.proofs.Common.{[], ◌∷◌, refl}
use Rattle.aes_block.specs.Planes.{shifted}
use Rattle.aes_block.proofs.Bits.{lane_bit_picked}
use Rattle.aes_block.proofs.Sixteen.{below_sixteen}
use Rattle.aes_block.proofs.lanes.shift_lanes.Goals as goal

pub returns : goal.returns
returns c p i h = lane_bit_picked c.args.v c.fits-v.0 (0 ∷ 5 ∷ 10 ∷ 15 ∷ 4 ∷ 9 ∷ 14 ∷ 3 ∷ 8 ∷ 13 ∷ 2 ∷ 7 ∷ 12 ∷ 1 ∷ 6 ∷ 11 ∷ []) tt (shifted) (below_sixteen _ refl refl refl refl refl refl refl refl refl refl refl refl refl refl refl refl) p h i
