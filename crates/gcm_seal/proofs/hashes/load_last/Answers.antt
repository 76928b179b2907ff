use Rattle.std.proofs.Common.{◌≡◌, ℕ, ◌+◌, ◌*◌, ◌≢◌, inl, inr, ◌∙◌, refl, sym, ap, arith, slice_index, below_more, get_or-set_same, get_or-set_other, replicate}
use Rattle.std.proofs.lemmas.Bool.{cases_lt}
use Rattle.std.proofs.lemmas.List.{get_or_past}
use Rattle.std.proofs.Math.ListN.{length-set}
use Rattle.std.specs.Int.{from_be_bytes, w128}
use Rattle.aes_block.proofs.Sixteen.{below_sixteen, sixteen_same}
use Rattle.gcm_seal.proofs.hashes.load_last.Goals as goal

pub loop-k-init : goal.loop-k-init
loop-k-init c = (
  refl,
  (λ j h. absurd (omega arith)),
  λ j _ h. below_sixteen (λ j. slice_index (replicate 16 0) j ≡ 0) refl refl refl refl refl refl refl refl refl refl refl refl refl refl refl refl j h,
)

pub loop-k-preserved : goal.loop-k-preserved
loop-k-preserved c =
    let long = c.loop-k.invariant.0 in
    let x : ℕ = slice_index c.args.s.now (16 * c.args.i + c.loop-k.k) in (
      length-set c.loop-k.last c.loop-k.k x ∙ long,
      below_more _ c.loop-k.k
          (λ j h. let ne : j ≢ c.loop-k.k = omega arith in get_or-set_other c.loop-k.last c.loop-k.k j x 0 ne ∙ c.loop-k.invariant.1 j h)
          (get_or-set_same c.loop-k.last c.loop-k.k x 0 (omega arith)),
      λ j h low. let ne : j ≢ c.loop-k.k = omega arith in get_or-set_other c.loop-k.last c.loop-k.k j x 0 ne ∙ c.loop-k.invariant.2 j (omega arith) low,
    )

pub returns : goal.returns
returns c =
    c.from_be_bytes.ensures
    ∙ ap (from_be_bytes w128) (sixteen_same (λ j. slice_index c.loop-k.last j) (λ j. slice_index c.args.s.now (16 * c.args.i + j))
    (λ j h. elim (cases_lt j c.loop-k.k) [
      | inl less ↦ c.loop-k.invariant.1 j less
      | inr more ↦ c.loop-k.invariant.2 j more h ∙ sym (get_or_past c.args.s.now (16 * c.args.i + j) 0 (omega arith))
    ]))
