use Rattle.std.proofs.Common.{ℕ, ◌*◌, ◌/◌, ◌^◌, ◌≢◌, refl, ap, ◌∙◌, arith, below_more, get_or-set_same, get_or-set_other, slice_index, bit_and}
use Rattle.std.proofs.Math.ListN.{length-set}
use Rattle.std.proofs.lemmas.Nat.Bits.{shr_and_one}
use Rattle.std.specs.Int.{bit_at}
use Rattle.aes_block.specs.Planes.{lane_bit}
use Rattle.aes_block.proofs.Bits.{lane_bit-lt}
use Rattle.aes_block.proofs.Bytes.{full_bit}
use Rattle.aes_block.proofs.planes.key_plane.Goals as goal

pub loop-i-init : goal.loop-i-init
loop-i-init c = (refl, λ k h. absurd (omega arith))

pub loop-i-preserved : goal.loop-i-preserved
loop-i-preserved c =
    let long = c.loop-i.invariant.0 in
    let x : ℕ = 255 * bit_and (slice_index c.args.bytes.now c.loop-i.i / 2 ^ c.args.bit) 1 in (
      length-set c.loop-i.lanes c.loop-i.i x ∙ long,
      below_more _ c.loop-i.i
          (λ k h. let ne : k ≢ c.loop-i.i = omega arith in get_or-set_other c.loop-i.lanes c.loop-i.i k x 0 ne ∙ c.loop-i.invariant.1 k h)
          (get_or-set_same c.loop-i.lanes c.loop-i.i x 0 (omega arith) ∙ ap (λ n. 255 * n) (shr_and_one (slice_index c.args.bytes.now c.loop-i.i) c.args.bit)),
    )

pub returns : goal.returns
returns c p i h k = ap (λ n. bit_at n i) (c.loop-i.invariant.1 p (omega arith)) ∙ full_bit (lane_bit c.args.bytes.now p c.args.bit) i (lane_bit-lt c.args.bytes.now p c.args.bit) k
