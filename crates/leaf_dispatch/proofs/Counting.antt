-- The count step of an exit is the one turn of its tree, and tells the parity of the epoch that it loads.
use Rattle.std.proofs.Common.{◌≡◌, ℕ, ◌+◌, ◌-◌, ◌%◌, ◌^◌, true, List, [], ◌∷◌, ◌++◌, Some, None, is_none, refl}
use Rattle.td_words.specs.Address.{word_at}
use Rattle.td_words.specs.Place.{Word}
use Rattle.td_words.specs.declared.machines.Machine.{Machine}
use Rattle.td_words.specs.declared.places.TheConstants.{TDR_TDCS, TDCS_ENTERED, VP_LAST_EPOCH}
use Rattle.td_words.specs.declared.replies.Outcome.{Outcome}
use Rattle.td_words.specs.declared.replies.Reply.TheVariants.{Exited}
use Rattle.step_core.specs.declared.steps.WordStep.TheVariants as step
use Rattle.step_core.specs.declared.items.Taken.{Taken}
use Rattle.step_core.specs.declared.items.Taken.TheVariants.{Stepped}
use Rattle.leaf_engine.specs.declared.needs.Need.TheVariants as need
use Rattle.leaf_engine.specs.declared.needs.Place.{Place}
use Rattle.leaf_engine.specs.declared.needs.Write.TheVariants as write
use Rattle.leaf_engine.specs.declared.events.Event.TheVariants as event
use Rattle.leaf_engine.specs.Changes.{Raise}
use Rattle.leaf_engine.specs.Guests.{Step, Operates, Accesses, Loads, Leaves}
use Rattle.leaf_engine.specs.Items.{IsChanged, AreChanged}
use Rattle.leaf_engine.specs.OwnLists.{running}
use Rattle.leaf_engine.specs.Trees.{Tree, acts, settle, passed}
use Rattle.leaf_parts.specs.Words.{page_told}
use Rattle.vcpu_control.specs.ExitTrees.{exit_changes, exit_tree}
use Rattle.guest_turns.specs.Turns.{MadeAtOnce}
use Rattle.guest_turns.specs.declared.runs.LeafTurn.{LeafTurn}
use Rattle.leaf_table.specs.Ends.{step_ends, step_tries}
use Rattle.leaf_table.specs.Given.{Given}
use Rattle.leaf_table.specs.Table.{step_task}
use Rattle.leaf_dispatch.specs.Exits.{HasLeft, IsCounted, StepCounted}
use Rattle.leaf_dispatch.specs.StepRuns.{step_run_seen}
use Rattle.leaf_dispatch.specs.declared.step_runs.StepRun.{StepRun}
use Rattle.leaf_dispatch.proofs.AtOnce.{step-with}

a-raise : (m : Machine) (tdcs last answer : ℕ) → AreChanged m (exit_changes tdcs last) None (Stepped (step.Add (word_at tdcs (TDCS_ENTERED + last % 2)) (2 ^ 64 - 1)) answer ∷ []) None
a-raise m tdcs last answer =
    let item : Taken = Stepped (step.Add (word_at tdcs (TDCS_ENTERED + last % 2)) (2 ^ 64 - 1)) answer in
    let one : IsChanged m (Raise (Word tdcs (TDCS_ENTERED + last % 2)) (2 ^ 64 - 1)) None (item ∷ []) None =
    record { write = write.Word (step.Add (word_at tdcs (TDCS_ENTERED + last % 2)) (2 ^ 64 - 1)); between = None; handed = λ hand is. (refl, is); written = (refl, (answer, refl)) } in
    (None, (item ∷ [], ([], refl, one, (refl, refl))))

exit-made : {B : Type 0} (did : List Taken → B → Type 0) (m : Machine) (t v : ℕ) (out : Outcome) (bench : B) (parity : ℕ) → HasLeft did m t v bench parity
    → (made : MadeAtOnce did m (exit_tree m t v out) bench (Exited out)) × IsCounted (Leaves out) parity made.1.0
exit-made did m t v out bench parity h =
    let tdcs : ℕ = page_told m.pages h.word in
    let loads : List Taken = Stepped (step.Load (word_at t TDR_TDCS)) h.word ∷ Stepped (step.Load (word_at v VP_LAST_EPOCH)) h.last ∷ [] in
    let stores : List Taken = Stepped (step.Add (word_at tdcs (TDCS_ENTERED + h.last % 2)) (2 ^ 64 - 1)) h.answer ∷ [] in
    let tree : Tree = acts (Exited out) (exit_changes tdcs h.last) in (
      (
        passed (settle tree),
        (
          loads ++ stores,
          h.did_them,
          record {
            turn = record {
              loads = loads;
              tree = tree;
              need = need.Verdict (Exited out);
              loaded = ((word_at t TDR_TDCS, refl, refl), ((word_at v VP_LAST_EPOCH, refl, refl), refl));
              gives = refl;
              comes = record { hasher = None; changes = stores; items = refl; changed = a-raise m tdcs h.last h.answer; event = refl; after = refl };
            };
            reply = refl;
          },
        ),
      ),
      h.parity_is,
    )

pub exit-counted : {B : Type 0} (did : List Taken → B → Type 0) (given : Given) (p : Place) (t v n : ℕ) (step : Step) (out : Outcome) (bench : B) (kept : StepRun) (result : LeafTurn) (parity : ℕ)
    → step ≡ Leaves out → HasLeft did p.machine t v bench parity → (kept.shared ≡ None) × (kept.other ≡ None) → result ≡ record { event = event.Act; act = Some (Exited out); reply = Some (Exited out) }
    → StepCounted did p.machine (step_ends t n step) (running (step_task given p t v n step) None) bench kept result step parity None
exit-counted did given p t v n step out bench kept result parity same left none is =
    let made = exit-made did p.machine t v out bench parity left in
    step-with did given p t v n step (Leaves out) bench (Exited out) kept result (λ (z : Step). IsCounted z parity) same refl made.0 none is made.1

-- a step that keeps a run is none by which a guest is left
pub uncounted : (step : Step) (kept : StepRun) (xs : List Taken) → (step_tries step ≡ 0 → is_none (step_run_seen kept) ≡ true) → (is_none (step_run_seen kept) ≡ true → ⊥) → IsCounted step 0 xs
uncounted (Operates o) kept xs alone some = tt
uncounted (Accesses access r gpa page) kept xs alone some = tt
uncounted (Loads access gpa level page) kept xs alone some = tt
uncounted (Leaves out) kept xs alone some = absurd (some (alone refl))
