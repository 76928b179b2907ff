-- What contracts see of the run of a guest's step: of a shared access, or of another leaf.
use Rattle.std.specs.Prelude.{List, [], Option}
use Rattle.std.proofs.Props.{props}
use Rattle.report_core.specs.declared.facts.Facts.{Facts}
use Rattle.td_words.specs.declared.machines.Machine.{Machine}
use Rattle.step_core.specs.declared.items.Taken.{Taken}
use Rattle.leaf_engine.specs.Turns.{Standing}
use Rattle.guest_turns.specs.declared.runs.LeafTurn.{LeafTurn}
use Rattle.guest_turns.specs.declared.runs.SharedRun.{SharedRun}
use Rattle.guest_turns.specs.SharedTurns.{standing_of, IsIn}
use Rattle.leaf_table.specs.Ends.{Ends}
use Rattle.leaf_dispatch.specs.Running.{LeafTurned}
use Rattle.leaf_dispatch.specs.ShortRuns.{seen_by, IsOneOf, IsOneOf-prop}
use Rattle.leaf_dispatch.specs.declared.step_runs.StepRun.{StepRun}

-- how far it is
abbrev pub step_run_seen : StepRun → Option Standing
step_run_seen k = seen_by standing_of k.shared k.other

-- the run that is kept, if there is one
abbrev pub IsStepRunOf : Machine → Ends → StepRun → Type 0
IsStepRunOf m e k = IsOneOf standing_of IsIn m e k.shared k.other

-- the next turn of the run of a step, which makes no bundle
abbrev pub StepTurned : {B : Type 0} → (List Taken → B → Type 0) → Machine → Ends → Standing → B → StepRun → LeafTurn → Option Facts → Type 0
StepTurned did m e s bench kept result facts = LeafTurned did m e s bench (step_run_seen kept) (IsStepRunOf m e kept) result [] facts

-- each has one proof

IsIn-prop : (m : Machine) (r : SharedRun) → IsProp (IsIn m r)
IsIn-prop m r = hlevel props

pub IsStepRunOf-prop : (m : Machine) (e : Ends) (k : StepRun) → IsProp (IsStepRunOf m e k)
IsStepRunOf-prop m e k = IsOneOf-prop standing_of IsIn IsIn-prop m e k.shared k.other
