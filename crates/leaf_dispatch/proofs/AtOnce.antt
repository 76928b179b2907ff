-- A step that has a short way makes the turn of its leaf's run.
use Rattle.std.proofs.Common.{◌≡◌, ℕ, List, [], Option, Some, None, refl, sym, subst}
use Rattle.td_words.specs.declared.machines.Machine.{Machine}
use Rattle.td_words.specs.declared.names.Access.{Access}
use Rattle.td_words.specs.declared.calls.GuestOp.{GuestOp}
use Rattle.td_words.specs.declared.replies.Reply.{Reply}
use Rattle.step_core.specs.declared.items.Taken.{Taken}
use Rattle.leaf_engine.specs.declared.needs.Place.{Place}
use Rattle.leaf_engine.specs.declared.events.Event.TheVariants as event
use Rattle.leaf_engine.specs.declared.events.Stage.TheVariants.{Trying, Answered}
use Rattle.leaf_engine.specs.Besides.{bundles_made}
use Rattle.leaf_engine.specs.Guests.{Step, Operates}
use Rattle.leaf_engine.specs.OwnLists.{running}
use Rattle.leaf_engine.specs.Trees.{Tree, settle}
use Rattle.leaf_engine.specs.Turns.{Standing, standing}
use Rattle.guest_turns.specs.Turns.{MadeAtOnce}
use Rattle.guest_turns.specs.SharedTurns.{access_tree, standing_of, IsIn, SharedTurned}
use Rattle.guest_turns.specs.declared.runs.LeafTurn.{LeafTurn}
use Rattle.guest_turns.specs.declared.runs.SharedRun.{SharedRun}
use Rattle.leaf_table.specs.Ends.{Ends, AreMade, step_reports, step_ends}
use Rattle.leaf_table.specs.Given.{Given}
use Rattle.leaf_table.specs.Table.{step_task}
use Rattle.leaf_table.proofs.NoBundles.{AreQuiet, step-answers}
use Rattle.leaf_table.proofs.Tries.{step_ends_as, step_begins_other}
use Rattle.leaf_dispatch.specs.Running.{LeafTurned}
use Rattle.leaf_dispatch.specs.ShortRuns.{seen_by, IsOneOf}
use Rattle.leaf_dispatch.specs.StepRuns.{step_run_seen, IsStepRunOf, StepTurned}
use Rattle.leaf_dispatch.specs.declared.running.Running.{Running}
use Rattle.leaf_dispatch.specs.declared.step_runs.StepRun.{StepRun}
use Rattle.leaf_dispatch.proofs.Lowering.{Gives, turn-gives}
use Rattle.leaf_dispatch.proofs.ShortRuns.{Begins, begins, nothing-kept, no-run-of, short-begins}

step-begins : (given : Given) (p : Place) (t v n : ℕ) (s : Step) → Begins (step_ends t n s) (running (step_task given p t v n s) None)
step-begins given p t v n s = begins (step_ends t n s) (step_task given p t v n s).tree (step_ends_as given p t v n s) (step_begins_other given p t v n s)

-- a step that is made at once

-- with what its items show
once-turned : {B : Type 0} (did : List Taken → B → Type 0) (m : Machine) (e : Ends) (t : Tree) (bench : B) (reply : Reply) (kept : Option Standing) (Keeps : Type 0) (result : LeafTurn) (P : List Taken → Type 0)
    → Begins e (standing (settle t) Trying [] None) → e.makes ≡ None → AreQuiet e → (made : MadeAtOnce did m t bench reply) → kept ≡ None → Keeps → result ≡ record { event = event.Act; act = Some reply; reply = Some reply } → P made.1.0
    → (t : LeafTurned did m e (standing (settle t) Trying [] None) bench kept Keeps result [] None) × P t.turned.0
once-turned did m e t bench reply kept Keeps result P b none quiet made gone keeps is shows =
    let s : Standing = standing (settle t) Trying [] None in
    let s' : Standing = standing made.0 (Answered reply) [] None in
    let gives : Gives e s s' event.Act = turn-gives m e s s' made.1.0 event.Act b.few_tries b.fits b.oldest made.1.2.turn in
    subst (λ (k : Option Standing). (t : LeafTurned did m e s bench k Keeps result [] None) × P t.turned.0) (sym gone)
    (subst (λ (r : LeafTurn). (t : LeafTurned did m e s bench None Keeps r [] None) × P t.turned.0) (sym is) (
      record {
        going = refl;
        few_tries = b.few_tries;
        fits = b.fits;
        oldest = b.oldest;
        stands = s';
        turned = made.1;
        act_is = refl;
        made_is = sym (subst (λ (o : Option ℕ). AreMade o (bundles_made event.Act made.0)) none gives.made);
        facts_is = sym (gives.quiet quiet);
        seen = refl;
        under_way = keeps;
      },
      shows,
    ))

pub step-with : {B : Type 0} (did : List Taken → B → Type 0) (given : Given) (p : Place) (t v n : ℕ) (step s : Step) (bench : B) (reply : Reply) (kept : StepRun) (result : LeafTurn) (P : Step → List Taken → Type 0)
    → step ≡ s → step_reports n s ≡ None → (made : MadeAtOnce did p.machine (step_task given p t v n s).tree bench reply) → (kept.shared ≡ None) × (kept.other ≡ None) → result ≡ record { event = event.Act; act = Some reply; reply = Some reply } → P s made.1.0
    → (x : StepTurned did p.machine (step_ends t n step) (running (step_task given p t v n step) None) bench kept result None) × P step x.turned.0
step-with did given p t v n step s bench reply kept result P same quiet made none is shows =
    let gone : step_run_seen kept ≡ None = nothing-kept standing_of IsIn kept.shared kept.other none.0 none.1 in
    subst (λ (z : Step). (x : StepTurned did p.machine (step_ends t n z) (running (step_task given p t v n z) None) bench kept result None) × P z x.turned.0) (sym same)
    (once-turned did p.machine (step_ends t n s) (step_task given p t v n s).tree bench reply (step_run_seen kept) (IsStepRunOf p.machine (step_ends t n s) kept) result (P s) (step-begins given p t v n s) refl (quiet, step-answers t n s) made gone
    (no-run-of standing_of IsIn p.machine (step_ends t n s) kept.shared kept.other gone) is shows)

pub step-once : {B : Type 0} (did : List Taken → B → Type 0) (given : Given) (p : Place) (m : Machine) (t v n : ℕ) (step s : Step) (bench : B) (reply : Reply) (kept : StepRun) (result : LeafTurn)
    → p.machine ≡ m → step ≡ s → step_reports n s ≡ None → MadeAtOnce did m (step_task given p t v n s).tree bench reply → (kept.shared ≡ None) × (kept.other ≡ None) → result ≡ record { event = event.Act; act = Some reply; reply = Some reply }
    → StepTurned did p.machine (step_ends t n step) (running (step_task given p t v n step) None) bench kept result None
step-once did given p m t v n step s bench reply kept result at same quiet made none is =
    (step-with did given p t v n step s bench reply kept result (λ z xs. Unit {0}) same quiet (subst (λ (k : Machine). MadeAtOnce did k (step_task given p t v n s).tree bench reply) (sym at) made) none is tt).0

-- a shared access that begins
pub shared-begins : {B : Type 0} (did : List Taken → B → Type 0) (given : Given) (p : Place) (m : Machine) (t v n : ℕ) (o o' : GuestOp) (access : Access) (r gpa : ℕ) (bench : B) (kept : Option SharedRun) (other : Option Running) (result : LeafTurn)
    → p.machine ≡ m → o ≡ o' → step_reports n (Operates o') ≡ None → (step_task given p t v n (Operates o')).tree ≡ access_tree p.machine access v n r gpa → other ≡ None
    → SharedTurned did m (standing (settle (access_tree m access v n r gpa)) Trying [] None) bench kept result
    → LeafTurned did p.machine (step_ends t n (Operates o)) (running (step_task given p t v n (Operates o)) None) bench (seen_by standing_of kept other) (IsOneOf standing_of IsIn p.machine (step_ends t n (Operates o)) kept other) result [] None
shared-begins did given p m t v n o o' access r gpa bench kept other result at same none tree alone turned =
    subst (λ (z : GuestOp). LeafTurned did p.machine (step_ends t n (Operates z)) (running (step_task given p t v n (Operates z)) None) bench (seen_by standing_of kept other) (IsOneOf standing_of IsIn p.machine (step_ends t n (Operates z)) kept other) result [] None) (sym same)
    (short-begins standing_of IsIn did p.machine m (step_ends t n (Operates o')) (step_task given p t v n (Operates o')).tree (λ (k : Machine). access_tree k access v n r gpa) bench kept other result at (step-begins given p t v n (Operates o')) refl (none, step-answers t n (Operates o')) tree alone turned)
