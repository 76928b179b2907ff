use Rattle.std.proofs.Common.{◌≡◌, ℕ, ◌+◌, ◌-◌, ◌*◌, ◌≢◌, List, [], ◌∷◌, refl, ap, ◌∙◌, arith, slice_index_or, below_more, get_or-set_same, get_or-set_other, slice_index}
use Rattle.std.proofs.Math.ListN.{length-set}
use Rattle.aes_block.specs.Aes.{schedule, xor_word}
use Rattle.aes_block.proofs.Words.{schedule-length, list_same, key_word, grown}
use Rattle.aes_block.proofs.key_schedules.expand.Goals as goal

pub copy-init : goal.copy-init
copy-init c = (refl, λ k h. absurd (omega arith))

pub copy-preserved : goal.copy-preserved
copy-preserved c =
    let long = c.copy.invariant.0 in
    let x : List ℕ = slice_index c.args.key.now (4 * c.copy.i) ∷ slice_index c.args.key.now (4 * c.copy.i + 1) ∷ slice_index c.args.key.now (4 * c.copy.i + 2) ∷ slice_index c.args.key.now (4 * c.copy.i + 3) ∷ [] in (
      length-set c.copy.w c.copy.i x ∙ long,
      below_more _ c.copy.i
          (λ k h. let ne : k ≢ c.copy.i = omega arith in get_or-set_other c.copy.w c.copy.i k x [] ne ∙ c.copy.invariant.1 k h)
          (get_or-set_same c.copy.w c.copy.i x [] (omega arith) ∙ key_word c.args.key.now c.copy.i c.copy-test.true),
    )

pub grow-init : goal.grow-init
grow-init c = (c.copy.invariant.0, λ k h. c.copy.invariant.1 k (omega arith))

pub grow-preserved : goal.grow-preserved
grow-preserved c =
    let long = c.grow.invariant.0 in (
      length-set c.grow.w c.grow.i c.xor_word.result ∙ long,
      grown c.args.key.now c.grow.w c.grow.i c.xor_word.result (omega arith) (omega arith) c.grow.invariant.1
          (c.xor_word.ensures ∙ ap (xor_word (slice_index_or c.grow.w (c.grow.i - 8) [])) c.stirred-mixed.ensures),
    )

pub returns : goal.returns
returns c =
    let long = c.grow.invariant.0 in
    let all : c.grow.i ≡ 60 = omega arith in
    list_same [] c.grow.w (schedule c.args.key.now 52) (omega (arith, schedule-length c.args.key.now 52))
    (λ k h. c.grow.invariant.1 k (omega arith) ∙ ap (λ m. slice_index_or (schedule c.args.key.now (m - 8)) k []) all)
