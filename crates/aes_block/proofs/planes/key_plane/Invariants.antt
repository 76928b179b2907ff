use Rattle.std.proofs.Common.{◌≡◌, ℕ, ◌<◌, ◌*◌, slice_index, length}
use Rattle.aes_block.specs.Planes.{lane_bit}
use Rattle.aes_block.proofs.planes.key_plane.Given as goal

abbrev pub invariant-loop-i : goal.invariant-loop-i
invariant-loop-i l = (length l.lanes ≡ 16) × ((k : ℕ) → k < l.i → slice_index l.lanes k ≡ 255 * lane_bit l.bytes k l.bit)
