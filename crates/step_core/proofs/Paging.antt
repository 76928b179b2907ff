-- Clearing and copying, one word more.
use Rattle.std.proofs.Common.{◌≡◌, refl, ap, ℕ, ◌+◌, List, [], ◌∷◌, ◌++◌, length, add-one, add-zero, arith}
use Rattle.td_words.specs.Address.{word_at}
use Rattle.step_core.specs.declared.steps.WordStep.TheVariants.{Load, Store}
use Rattle.step_core.specs.declared.items.Taken.{Taken}
use Rattle.step_core.specs.declared.items.Taken.TheVariants.{Stepped}
use Rattle.step_core.specs.Pages.{clearing, copying}

pub clearing_none : (page : ℕ) → clearing page 0 ≡ []
unfolding clearing
clearing_none page = refl

pub clearing_more : (page n : ℕ) → clearing page (n + 1) ≡ clearing page n ++ Stepped (Store (word_at page n) 0) 0 ∷ []
unfolding clearing
clearing_more page n = rw add-one refl

pub copying_more : (from to i : ℕ) (vs : List ℕ) (v : ℕ) → copying from to i (vs ++ v ∷ []) ≡ copying from to i vs ++ Stepped (Load (word_at from (i + length vs))) v ∷ Stepped (Store (word_at to (i + length vs)) v) 0 ∷ []
copying_more from to i [] v = rw add-zero refl
copying_more from to i (w ∷ vs) v =
    let e : i + 1 + length vs ≡ i + length (w ∷ vs) = omega arith in
    rw (← e) (ap (λ (xs : List Taken). Stepped (Load (word_at from i)) w ∷ Stepped (Store (word_at to i) w) 0 ∷ xs) (copying_more from to (i + 1) vs v))

pub copying_word : (from to n : ℕ) (vs : List ℕ) (v : ℕ) → length vs ≡ n → copying from to 0 (vs ++ v ∷ []) ≡ copying from to 0 vs ++ Stepped (Load (word_at from n)) v ∷ Stepped (Store (word_at to n) v) 0 ∷ []
copying_word from to n vs v e =
    let k : 0 + length vs ≡ n = omega arith in
    let m = copying_more from to 0 vs v in
    rw k at m
