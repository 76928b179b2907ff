-- What contracts see of the run of a call: of a host access, or of another leaf.
use Rattle.std.specs.Prelude.{List, [], ◌∷◌, Option, None}
use Rattle.std.proofs.Props.{props}
use Rattle.td_words.specs.declared.machines.Machine.{Machine}
use Rattle.td_words.specs.declared.calls.Call.{Call}
use Rattle.flat_core.specs.World.{Made}
use Rattle.step_core.specs.declared.items.Taken.{Taken}
use Rattle.leaf_engine.specs.Turns.{Standing}
use Rattle.guest_turns.specs.declared.runs.LeafTurn.{LeafTurn}
use Rattle.host_turns.specs.declared.runs.HostRun.{HostRun}
use Rattle.host_turns.specs.HostTurns.{standing_of, IsIn}
use Rattle.leaf_table.specs.Ends.{Ends, call_ends}
use Rattle.leaf_dispatch.specs.Running.{LeafTurned}
use Rattle.leaf_dispatch.specs.ShortRuns.{seen_by, IsOneOf, IsOneOf-prop}
use Rattle.leaf_dispatch.specs.declared.call_runs.CallRun.{CallRun}

-- how far it is
abbrev pub call_run_seen : CallRun → Option Standing
call_run_seen k = seen_by standing_of k.host k.other

-- the run that is kept, if there is one
abbrev pub IsCallRunOf : Machine → Ends → CallRun → Type 0
IsCallRunOf m e k = IsOneOf standing_of IsIn m e k.host k.other

-- the run of the first of these lines, if there is one
abbrev pub IsCallRunAt : Machine → List Call → CallRun → Type 0
IsCallRunAt m [] k = Unit {0}
IsCallRunAt m (c ∷ cs) k = IsCallRunOf m (call_ends m c) k

-- the next turn of the run of a call, with the bundles that it made: it reports nothing
abbrev pub CallTurned : {B : Type 0} → (List Taken → B → Type 0) → Machine → Ends → Standing → B → CallRun → LeafTurn → List Made → Type 0
CallTurned did m e s bench kept result made = LeafTurned did m e s bench (call_run_seen kept) (IsCallRunOf m e kept) result made None

-- each has one proof

IsIn-prop : (m : Machine) (r : HostRun) → IsProp (IsIn m r)
IsIn-prop m r = hlevel props

pub IsCallRunOf-prop : (m : Machine) (e : Ends) (k : CallRun) → IsProp (IsCallRunOf m e k)
IsCallRunOf-prop m e k = IsOneOf-prop standing_of IsIn IsIn-prop m e k.host k.other

pub IsCallRunAt-prop : (m : Machine) (cs : List Call) (k : CallRun) → IsProp (IsCallRunAt m cs k)
IsCallRunAt-prop m [] k = hlevel
IsCallRunAt-prop m (c ∷ cs) k = IsCallRunOf-prop m (call_ends m c) k
