-- What each kind of step tells its seat.
use Rattle.std.specs.Prelude.{◌≡◌, ◌≢◌, ℕ, ◌-◌, Option, Some, None, List, [], ◌∷◌}
use Rattle.atomic_table.specs.Table.{Me, Step, rest}
use Rattle.mrtd_measure.specs.declared.measures.Measure.{Measure}
use Rattle.step_core.specs.declared.steps.WordStep.{WordStep}
use Rattle.step_core.specs.declared.steps.WordStep.TheVariants.{Load, Store, Add, Sub, Exchange}
use Rattle.step_core.specs.declared.items.Taken.TheVariants.{Stepped, Swapped, Missed}
use Rattle.trace_table.specs.declared.told.Swap.{Swap}
use Rattle.trace_table.specs.declared.told.Told.{Told}
use Rattle.trace_table.specs.Views.{guards, grown}

-- a seat with the slots that it holds, and a step of the table
abbrev pub Seated : Type 0
Seated = Me (Option Measure) Told

abbrev pub StepAt : Type 0
StepAt = Step (Option Measure)

-- a step on a machine's word: the seat's own list has it more, with its answer
abbrev pub did_step : WordStep → ℕ → Seated → Seated → Type 0
did_step s answer me me' = me' ≡ (grown me.0 (Stepped s answer ∷ []), me.1)

abbrev pub loaded : StepAt → Seated → ℕ → Seated → Type 0
loaded s me found me' = did_step (Load (s.word - guards)) found me me'

abbrev pub stored : StepAt → Seated → ℕ → Seated → Type 0
stored s me found me' = did_step (Store (s.word - guards) s.first) 0 me me'

abbrev pub added : StepAt → Seated → ℕ → Seated → Type 0
added s me found me' = did_step (Add (s.word - guards) s.first) found me me'

abbrev pub taken_off : StepAt → Seated → ℕ → Seated → Type 0
taken_off s me found me' = did_step (Sub (s.word - guards) s.first) found me me'

abbrev pub exchanged : StepAt → Seated → ℕ → Seated → Type 0
exchanged s me found me' = did_step (Exchange (s.word - guards) s.first s.second) found me me'

-- a swap begins: its slot was taken, with what was in it; or another seat has it, which is a miss
abbrev pub took : StepAt → Seated → ℕ → Seated → Type 0
took s me found me' =
    (found ≡ 0 → (y : Option Measure) × (me' ≡ (record me.0 { under_way = Some (record { slot = s.word; taken = y }) }, (s.word, y) ∷ me.1)))
    × (found ≢ 0 → me' ≡ (grown me.0 (Missed s.word ∷ []), me.1))

-- what a seat would put back, and what it took
abbrev pub carried : List (ℕ × Option Measure) → Option Measure
carried [] = None
carried (x ∷ xs) = x.1

abbrev pub taken_of : Option Swap → Option Measure
taken_of None = None
taken_of (Some x) = x.taken

-- a swap ends: its slot was given back, and here it is told
abbrev pub gave : StepAt → Seated → ℕ → Seated → Type 0
gave s me found me' = me' ≡ (record (grown me.0 (Swapped s.word (carried me.1) (taken_of me.0.under_way) ∷ [])) { under_way = None }, rest me.1)
