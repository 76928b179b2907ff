-- Lock words: bit 63 for the exclusive holder, and below it the number of sharers and of processors that are being refused.
use Rattle.std.specs.Prelude.{◌≡◌, ℕ, ◌^◌, nat_lt, ◌==◌, if◌then◌else◌, List, [], ◌∷◌}
pub use Rattle.td_words.specs.Place.{weight_of}
use Rattle.step_core.specs.declared.steps.WordStep.{WordStep}
use Rattle.step_core.specs.declared.locks.Tried.{Tried}
use Rattle.step_core.specs.declared.locks.Tried.TheVariants.{Granted, Denied}
use Rattle.step_core.specs.declared.items.Taken.{Taken}
use Rattle.step_core.specs.declared.items.Taken.TheVariants.{Stepped}

-- a shared try is granted where bit 63 was clear
abbrev pub shared_outcome : ℕ → Tried
shared_outcome seen = if nat_lt seen (2 ^ 63) then Granted else Denied seen

-- an exclusive try is granted where the word was 0
abbrev pub exclusive_outcome : ℕ → Tried
exclusive_outcome seen = if seen == 0 then Granted else Denied seen

-- a try is one step, and its outcome is that of the word that it saw
abbrev pub TriedBy : {B : Type 0} → (List Taken → B → Type 0) → WordStep → (ℕ → Tried) → B → Tried → Type 0
TriedBy did step outcome after tried = (seen : ℕ) × did (Stepped step seen ∷ []) after × (tried ≡ outcome seen)

-- one step, whatever it answers
abbrev pub DidStep : {B : Type 0} → (List Taken → B → Type 0) → WordStep → B → Type 0
DidStep did step after = (answer : ℕ) × did (Stepped step answer ∷ []) after
