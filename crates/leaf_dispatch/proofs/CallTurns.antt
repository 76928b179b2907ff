-- A call that is a host access makes the turn of its leaf's run.
use Rattle.std.proofs.Common.{◌≡◌, ℕ, ◌<◌, true, is_none, is_some, List, [], ◌∷◌, length, Option, Some, None, refl, sym, subst, arith}
use Rattle.td_words.specs.declared.machines.Machine.{Machine}
use Rattle.td_words.specs.declared.calls.Call.{Call}
use Rattle.step_core.specs.declared.items.Taken.{Taken}
use Rattle.bundles.specs.Stores.{Stored}
use Rattle.leaf_engine.specs.declared.needs.Place.{Place}
use Rattle.leaf_engine.specs.declared.events.Stage.TheVariants.{Trying}
use Rattle.leaf_engine.specs.OwnLists.{running}
use Rattle.leaf_engine.specs.Trees.{settle}
use Rattle.leaf_engine.specs.Turns.{Standing, standing}
use Rattle.guest_turns.specs.declared.runs.LeafTurn.{LeafTurn}
use Rattle.host_turns.specs.HostTurns.{access_tree, standing_of, IsIn, HostTurned}
use Rattle.host_turns.specs.declared.runs.HostAccess.{HostAccess}
use Rattle.host_turns.specs.declared.runs.HostRun.{HostRun}
use Rattle.leaf_table.specs.Ends.{call_makes, call_ends}
use Rattle.leaf_table.specs.Given.{Given}
use Rattle.leaf_table.specs.Table.{task_of}
use Rattle.leaf_table.proofs.Tries.{ends_as, begins_other}
use Rattle.leaf_dispatch.specs.BundleRooms.{HasAdded}
use Rattle.leaf_dispatch.specs.CallRuns.{IsCallRunAt}
use Rattle.leaf_dispatch.specs.Inside.{acting}
use Rattle.leaf_dispatch.specs.Running.{LeafTurned}
use Rattle.leaf_dispatch.specs.ShortRuns.{seen_by, IsOneOf}
use Rattle.leaf_dispatch.specs.declared.call_runs.CallRun.{CallRun}
use Rattle.leaf_dispatch.specs.declared.running.Running.{Running}
use Rattle.leaf_dispatch.specs.declared.guests.GuestAt.{GuestAt}
use Rattle.leaf_table.proofs.NoBundles.{calls-quiet}
use Rattle.leaf_dispatch.proofs.ShortRuns.{Begins, begins, nothing-kept, short-begins, short-alone}

call-begins : (given : Given) (p : Place) (c : Call) → Begins (call_ends p.machine c) (running (task_of given p c) None)
call-begins given p c = begins (call_ends p.machine c) (task_of given p c).tree (ends_as given p c) (begins_other given p c)

-- a host access that begins
pub host-begins : {B : Type 0} (did : List Taken → B → Type 0) (given : Given) (p : Place) (m : Machine) (c d : Call) (access : HostAccess) (page i : ℕ) (bench : B) (before kept : Option HostRun) (other : Option Running) (result : LeafTurn)
    → p.machine ≡ m → c ≡ d → call_makes d ≡ None → (task_of given p d).tree ≡ access_tree p.machine access page i → before ≡ None → other ≡ None
    → HostTurned did m (standing (settle (access_tree m access page i)) Trying [] None) bench kept result
    → LeafTurned did p.machine (call_ends p.machine c) (running (task_of given p c) (seen_by standing_of before other)) bench (seen_by standing_of kept other) (IsOneOf standing_of IsIn p.machine (call_ends p.machine c) kept other) result [] None
host-begins did given p m c d access page i bench before kept other result at same none tree no_host no_other turned =
    subst (λ (run : Option Standing). LeafTurned did p.machine (call_ends p.machine c) (running (task_of given p c) run) bench (seen_by standing_of kept other) (IsOneOf standing_of IsIn p.machine (call_ends p.machine c) kept other) result [] None) (sym (nothing-kept standing_of IsIn before other no_host no_other))
    (subst (λ (z : Call). LeafTurned did p.machine (call_ends p.machine z) (running (task_of given p z) None) bench (seen_by standing_of kept other) (IsOneOf standing_of IsIn p.machine (call_ends p.machine z) kept other) result [] None) (sym same)
    (short-begins standing_of IsIn did p.machine m (call_ends p.machine d) (task_of given p d).tree (λ (k : Machine). access_tree k access page i) bench kept other result at (call-begins given p d) none (calls-quiet p d) tree no_other turned))

-- it makes no bundle
pub adds-none : (b : Stored) → HasAdded b [] b
adds-none b = record { made = refl; room = omega arith; word_room = omega arith }

-- none is kept while the run of another leaf is
pub host-alone : (m : Machine) (lines : List Call) (k : CallRun) → 0 < length lines → IsCallRunAt m lines k → is_some k.other ≡ true → is_none k.host ≡ true
host-alone m [] k some u other = absurd (omega (arith, some))
host-alone m (c ∷ cs) k some u other = short-alone standing_of IsIn m (call_ends m c) k.host k.other u other

pub acting-alone : (m : Machine) (lines : List Call) (k : CallRun) (guest : Option GuestAt) (g : GuestAt) → 0 < length lines → IsCallRunAt m lines k → acting guest k.other ≡ Some g → is_none k.host ≡ true
acting-alone m lines k guest g some u acts = host-alone m lines k some u (runs guest k.other acts)
  where
    runs : (guest : Option GuestAt) (run : Option Running) → acting guest run ≡ Some g → is_some run ≡ true
    runs None run e = cc
    runs (Some h) None e = cc
    runs (Some h) (Some r) e = refl
