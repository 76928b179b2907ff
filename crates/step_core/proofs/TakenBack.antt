-- Tries that are taken back leave every word as it was.
use Rattle.std.proofs.Common.{◌≡◌, refl, sym, ◌∙◌, ap, ℕ, ◌+◌, ◌-◌, ◌%◌, ◌^◌, ◌<◌, Bool, true, false, ◌==◌, if◌then◌else◌, [], ◌∷◌, arith, eq-eqb}
use Rattle.std.proofs.lemmas.Bool.{eqb-true}
use Rattle.step_core.specs.declared.steps.WordStep.TheVariants.{Add, Sub, Exchange}
use Rattle.step_core.specs.Words.{Words, plays, with_word}
use Rattle.step_core.specs.Laws.{TriesTakenBack}

-- a word put back where it was
put_back : (w : Words) (at v x n : ℕ) → x ≡ w at → with_word (with_word w at v) at x n ≡ w n
put_back w at v x n e = by (n == at) refl
  where
    by : (b : Bool) → (n == at) ≡ b → (if n == at then x else (if n == at then v else w n)) ≡ w n
    by true h = rw h (e ∙ ap w (sym (eqb-true n at h)))
    by false h = rw h refl

at_place : (w : Words) (at v : ℕ) → with_word w at v at ≡ v
at_place w at v = let here : (at == at) ≡ true = eq-eqb at at refl in rw here refl

added_back : (x : ℕ) → x < 2 ^ 64 → ((x + 1) % 2 ^ 64 + (2 ^ 64 - 1)) % 2 ^ 64 ≡ x
added_back x h = omega arith

shared_back : (w : Words) (at n : ℕ) → w at < 2 ^ 64 → plays w (Add at 1 ∷ Sub at 1 ∷ []) n ≡ w n
shared_back w at n h =
    let here = at_place w at ((w at + 1) % 2 ^ 64) in
    put_back w at ((w at + 1) % 2 ^ 64) _ n (rw here (added_back (w at) h))

exclusive_back : (w : Words) (at n : ℕ) → w at ≡ 0 → plays w (Exchange at 0 (2 ^ 63) ∷ Sub at (2 ^ 63) ∷ []) n ≡ w n
exclusive_back w at n h =
    let free : (w at == 0) ≡ true = eq-eqb (w at) 0 h in
    let here = at_place w at (2 ^ 63) in
    rw free (put_back w at (2 ^ 63) _ n (rw here (sym h)))

pub back : TriesTakenBack
back = record { shared = shared_back; exclusive = exclusive_back }
