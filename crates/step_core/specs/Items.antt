-- What was done on a bench, item by item, each with its answer.
use Rattle.std.specs.Prelude.{◌≡◌, ℕ, ◌==◌, if◌then◌else◌, ◌⊎◌, List, [], ◌∷◌, Option, None}
use Rattle.mrtd_measure.specs.declared.measures.Measure.{Measure}
use Rattle.step_core.specs.Words.{Words, answer_of, after_step}
use Rattle.step_core.specs.declared.steps.WordStep.{WordStep}
use Rattle.step_core.specs.declared.items.Taken.{Taken}
use Rattle.step_core.specs.declared.items.Taken.TheVariants.{Stepped, Swapped, Missed}

-- a machine's words by address, and its hashers by slot
pub record Table : Type 0 where
  pub words : Words
  pub slots : ℕ → Option Measure

-- hashers with h in a slot
abbrev pub with_slot : (ℕ → Option Measure) → ℕ → Option Measure → ℕ → Option Measure
with_slot slots k h n = if n == k then h else slots n

-- on a table that nobody else uses these items, with these answers, lead to the second table; no swap misses there
abbrev pub PlaysTo : Table → List Taken → Table → Type 0
PlaysTo t [] u = (u.words ≡ t.words) × (u.slots ≡ t.slots)
PlaysTo t (Stepped s answer ∷ xs) u = (answer ≡ answer_of t.words s) × PlaysTo (record t { words = after_step t.words s }) xs u
PlaysTo t (Swapped k put taken ∷ xs) u = (taken ≡ t.slots k) × PlaysTo (record t { slots = with_slot t.slots k put }) xs u
PlaysTo t (Missed k ∷ xs) u = ⊥

-- the word steps among the items
abbrev pub steps_of : List Taken → List WordStep
steps_of [] = []
steps_of (Stepped s answer ∷ xs) = s ∷ steps_of xs
steps_of (Swapped k put taken ∷ xs) = steps_of xs
steps_of (Missed k ∷ xs) = steps_of xs

-- a swap is one item, told where it gives its slot back: it was made, or it missed and took nothing
abbrev pub SwapDid : {B : Type 0} → (List Taken → B → Type 0) → ℕ → Option Measure → Option Measure → B → Type 0
SwapDid did k put taken after = did (Swapped k put taken ∷ []) after ⊎ ((taken ≡ None) × did (Missed k ∷ []) after)
