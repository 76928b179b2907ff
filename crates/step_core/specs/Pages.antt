-- The steps that clear a page and that copy one.
use Rattle.std.specs.Prelude.{◌≡◌, ℕ, zero, suc, ◌+◌, List, [], ◌∷◌, ◌++◌, length}
use Rattle.td_words.specs.Address.{word_at}
use Rattle.step_core.specs.declared.steps.WordStep.TheVariants.{Load, Store}
use Rattle.step_core.specs.declared.items.Taken.{Taken}
use Rattle.step_core.specs.declared.items.Taken.TheVariants.{Stepped}

-- the stores that clear the first words of a page, in order
unfoldable pub clearing : ℕ → ℕ → List Taken
clearing page zero = []
clearing page (suc n) = clearing page n ++ Stepped (Store (word_at page n) 0) 0 ∷ []

-- the pairs of a load and a store that copy words of a page from word i on, with the words that the loads saw
abbrev pub copying : ℕ → ℕ → ℕ → List ℕ → List Taken
copying from to i [] = []
copying from to i (v ∷ vs) = Stepped (Load (word_at from i)) v ∷ Stepped (Store (word_at to i) v) 0 ∷ copying from to (i + 1) vs

-- the first words of a page were copied, in order
abbrev pub Copies : {B : Type 0} → (List Taken → B → Type 0) → ℕ → ℕ → ℕ → B → Type 0
Copies did from to count after = (seen : List ℕ) × (length seen ≡ count) × did (copying from to 0 seen) after
