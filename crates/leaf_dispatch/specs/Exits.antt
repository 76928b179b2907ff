-- The count step of an exit, made at once, and what a guest's turn tells of it.
use Rattle.std.specs.Prelude.{◌≡◌, ℕ, ◌+◌, ◌-◌, ◌%◌, ◌^◌, List, [], ◌∷◌, Option}
use Rattle.report_core.specs.declared.facts.Facts.{Facts}
use Rattle.td_words.specs.Address.{word_at}
use Rattle.td_words.specs.declared.machines.Machine.{Machine}
use Rattle.td_words.specs.declared.places.TheConstants.{TDR_TDCS, TDCS_ENTERED, VP_LAST_EPOCH}
use Rattle.step_core.specs.declared.steps.WordStep.TheVariants as step
use Rattle.step_core.specs.declared.items.Taken.{Taken}
use Rattle.step_core.specs.declared.items.Taken.TheVariants.{Stepped}
use Rattle.leaf_engine.specs.Guests.{Step, Leaves}
use Rattle.leaf_engine.specs.Turns.{Standing}
use Rattle.leaf_parts.specs.Words.{page_told}
use Rattle.guest_turns.specs.declared.runs.LeafTurn.{LeafTurn}
use Rattle.leaf_table.specs.Ends.{Ends}
use Rattle.leaf_dispatch.specs.Shown.{epoch_loaded}
use Rattle.leaf_dispatch.specs.StepRuns.{StepTurned}
use Rattle.leaf_dispatch.specs.declared.step_runs.StepRun.{StepRun}

-- the count of the last epoch of a virtual processor was lowered by one, of this parity
pub record HasLeft {B : Type 0} (did : List Taken → B → Type 0) (m : Machine) (tdr vp : ℕ) (bench : B) (parity : ℕ) : Type 0 where
  pub word : ℕ
  pub last : ℕ
  pub answer : ℕ
  pub did_them : did
      (Stepped (step.Load (word_at tdr TDR_TDCS)) word
      ∷ Stepped (step.Load (word_at vp VP_LAST_EPOCH)) last
      ∷ Stepped (step.Add (word_at (page_told m.pages word) (TDCS_ENTERED + last % 2)) (2 ^ 64 - 1)) answer
      ∷ []) bench
  pub parity_is : parity ≡ last % 2

-- where a step leaves its guest, the items of its turn tell the parity
abbrev pub IsCounted : Step → (parity : ℕ) → List Taken → Type 0
IsCounted (Leaves outcome) n xs = n ≡ epoch_loaded xs % 2
IsCounted _ n xs = Unit {0}

abbrev pub StepCounted : {B : Type 0} → (List Taken → B → Type 0) → Machine → Ends → Standing → B → StepRun → LeafTurn → Step → (parity : ℕ) → Option Facts → Type 0
StepCounted did m e s bench kept result step n facts = (t : StepTurned did m e s bench kept result facts) × IsCounted step n t.turned.0
