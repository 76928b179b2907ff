-- The events of a shared access are turns of its tree.
use Rattle.std.proofs.Common.{◌≡◌, ℕ, ◌+◌, ◌%◌, ◌^◌, Bool, true, false, not, ◌==◌, ◌&&◌, nat_lt, if◌then◌else◌, List, [], ◌∷◌, Some, None, refl, ap, sym, subst, ◌∙◌}
use Rattle.td_words.specs.declared.machines.Machine.{Machine}
use Rattle.td_words.specs.declared.names.LockName.TheVariants as name
use Rattle.td_words.specs.declared.names.Mode.TheVariants.{Shared}
use Rattle.td_words.specs.declared.names.Access.{Access}
use Rattle.td_words.specs.declared.names.Access.TheVariants.{Read, Write}
use Rattle.td_words.specs.declared.replies.Reply.TheVariants.{Done}
use Rattle.td_words.specs.declared.replies.Value.TheVariants as value
use Rattle.td_words.specs.Address.{lock_at, pamt_at, word_at}
use Rattle.td_words.specs.Place.{Word}
use Rattle.td_words.specs.Place as place
use Rattle.flat_core.specs.Processor.{OfPage}
use Rattle.flat_core.specs.Tree.{word_of_gpa}
use Rattle.flat_core.specs.Guest.{shared_page}
use Rattle.step_core.specs.declared.steps.WordStep.TheVariants as step
use Rattle.step_core.specs.declared.items.Taken.{Taken}
use Rattle.step_core.specs.declared.items.Taken.TheVariants.{Stepped}
use Rattle.leaf_engine.specs.declared.events.Event.TheVariants as event
use Rattle.leaf_engine.specs.declared.events.Stage.TheVariants as stage
use Rattle.leaf_engine.specs.Items.{IsLoaded}
use Rattle.leaf_engine.specs.Trees.{Tree, Lock, answers, settle}
use Rattle.leaf_engine.specs.Turns.{standing, Turned, grants}
use Rattle.leaf_parts.specs.Words.{says_host}
use Rattle.guest_turns.specs.declared.runs.SharedRun.{SharedRun}
use Rattle.guest_turns.specs.declared.runs.SharedStage.{SharedStage}
use Rattle.guest_turns.specs.declared.runs.SharedStage.TheVariants.{Locked, Violated, Completed}
use Rattle.guest_turns.specs.SharedTurns.{access_tree, host_tree, locked_tree, ended_tree, violation, stands, standing_at, standing_of, IsIn, SharedTurned, stage_behind, source, target}
use Rattle.guest_turns.specs.Pages.{page_lock}
use Rattle.guest_turns.specs.Turns.{HasMoved}
use Rattle.guest_turns.specs.declared.words.Moved.{Moved}
use Rattle.guest_turns.proofs.Making.{load_of, store_of, two-puts, comes-to-act}
use Rattle.guest_turns.proofs.ShortTurns.{answers-at-once, behind_try, tries-page}

-- the page that it names is judged first
abbrev pub names_other : Machine → (vp gpa : ℕ) → Bool
names_other m v gpa = nat_lt (shared_page gpa) m.pages && not (shared_page gpa == v)

abbrev pub lock_tree : Access → (vp line register gpa : ℕ) → Tree
lock_tree access v line r gpa = Lock (OfPage (shared_page gpa)) (place.Lock (shared_page gpa)) Shared (locked_tree access v line r gpa)

abbrev pub settled_by : Bool → Access → (vp line register gpa : ℕ) → Tree
settled_by b access v line r gpa = if b then lock_tree access v line r gpa else answers (violation access gpa)

settled : (m : Machine) (access : Access) (v line r gpa : ℕ) → settle (access_tree m access v line r gpa) ≡ settled_by (names_other m v gpa) access v line r gpa
settled m Read v line r gpa = refl
settled m Write v line r gpa = refl

pub violates : {B : Type 0} (did : List Taken → B → Type 0) (m : Machine) (access : Access) (v line r gpa : ℕ) (bench : B) → did [] bench → names_other m v gpa ≡ false
    → SharedTurned did m (standing (settle (access_tree m access v line r gpa)) stage.Trying [] None) bench None (record { event = event.Act; act = Some (violation access gpa); reply = Some (violation access gpa) })
violates did m access v line r gpa bench nothing other =
    answers-at-once standing_of IsIn did m (settle (access_tree m access v line r gpa)) (violation access gpa) bench nothing (settled m access v line r gpa ∙ ap (λ (b : Bool). settled_by b access v line r gpa) other)

behind-try : (run : SharedRun) (granted : Bool) → standing_at run (stage_behind granted) ≡ behind_try granted (shared_page run.gpa) (locked_tree run.access run.vp run.line run.register run.gpa)
behind-try run true = refl
behind-try run false = refl

pub tries : {B : Type 0} (did : List Taken → B → Type 0) (m : Machine) (run : SharedRun) (saw : ℕ) (granted : Bool) (bench : B)
    → did (Stepped (step.Add (lock_at run.page) 1) saw ∷ []) bench → granted ≡ grants Shared saw → run.stage ≡ stage_behind granted → IsIn m run → names_other m run.vp run.gpa ≡ true
    → SharedTurned did m (standing (settle (access_tree m run.access run.vp run.line run.register run.gpa)) stage.Trying [] None) bench (Some run) (record { event = event.Try (name.Page run.page) Shared granted; act = None; reply = None })
tries did m run saw granted bench made by at inside other =
    let whole : Tree = settle (access_tree m run.access run.vp run.line run.register run.gpa) in
    let locked : Tree = locked_tree run.access run.vp run.line run.register run.gpa in
    record {
      stands = behind_try granted (shared_page run.gpa) locked;
      turned = subst (λ (q : ℕ). Turned did m (standing whole stage.Trying [] None) bench (behind_try granted (shared_page run.gpa) locked) (record { event = event.Try (name.Page q) Shared granted; reply = None })) (sym run.named)
          (tries-page did m whole locked (shared_page run.gpa) saw granted bench (subst (λ (q : ℕ). did (Stepped (step.Add (lock_at q) 1) saw ∷ []) bench) run.named made) by
          (settled m run.access run.vp run.line run.register run.gpa ∙ ap (λ (b : Bool). settled_by b run.access run.vp run.line run.register run.gpa) other));
      act_is = refl;
      seen = ap (λ (s : SharedStage). Some (standing_at run s)) at ∙ ap Some (behind-try run granted);
      inside = inside;
    }

-- the act
pub is-violated : {B : Type 0} (did : List Taken → B → Type 0) (m : Machine) (access : Access) (v line r gpa pamt : ℕ) (bench : B) → did (load_of (pamt_at (shared_page gpa)) pamt ∷ []) bench → says_host pamt ≡ false
    → Turned did m (stands Locked access v line r gpa) bench (stands Violated access v line r gpa) (record { event = event.Act; reply = None })
is-violated did m access v line r gpa pamt bench made other =
    comes-to-act did m (locked_tree access v line r gpa) (page_lock gpa ∷ []) (load_of (pamt_at (shared_page gpa)) pamt ∷ []) (answers (violation access gpa)) [] (violation access gpa) bench made
    ((pamt_at (shared_page gpa), refl, refl), ap (λ (b : Bool). if b then settle (host_tree access v line r gpa) else answers (violation access gpa)) other) refl (refl, refl)

loaded-host : (m : Machine) (access : Access) (v line r gpa pamt : ℕ) (xs : List Taken) (u : Tree) → says_host pamt ≡ true → IsLoaded m.pages (settle (host_tree access v line r gpa)) xs u
    → IsLoaded m.pages (locked_tree access v line r gpa) (load_of (pamt_at (shared_page gpa)) pamt ∷ xs) u
loaded-host m access v line r gpa pamt xs u host behind =
    ((pamt_at (shared_page gpa), refl, refl), subst (λ (b : Bool). IsLoaded m.pages (if b then settle (host_tree access v line r gpa) else answers (violation access gpa)) xs u) (sym host) behind)

is-completed : {B : Type 0} (did : List Taken → B → Type 0) (m : Machine) (access : Access) (v line r gpa pamt at x : ℕ) (bench : B)
    → did (load_of (pamt_at (shared_page gpa)) pamt ∷ load_of (word_at v 4) at ∷ load_of (source access v r gpa) x ∷ store_of (target access v r gpa) x ∷ store_of (word_at v 4) ((at + 1) % 2 ^ 64) ∷ []) bench
    → says_host pamt ≡ true → Turned did m (stands Locked access v line r gpa) bench (stands (Completed at x) access v line r gpa) (record { event = event.Act; reply = None })
is-completed did m Read v line r gpa pamt at x bench made host =
    comes-to-act did m (locked_tree Read v line r gpa) (page_lock gpa ∷ []) (load_of (pamt_at (shared_page gpa)) pamt ∷ load_of (word_at v 4) at ∷ load_of (source Read v r gpa) x ∷ []) (ended_tree Read v line r gpa at x)
    (store_of (target Read v r gpa) x ∷ store_of (word_at v 4) ((at + 1) % 2 ^ 64) ∷ []) (Done (value.Number x)) bench made
    (loaded-host m Read v line r gpa pamt (load_of (word_at v 4) at ∷ load_of (source Read v r gpa) x ∷ []) (ended_tree Read v line r gpa at x) host ((word_at v 4, refl, refl), ((source Read v r gpa, refl, refl), refl))) refl (two-puts m (Word v (8 + r)) x (Word v 4) ((at + 1) % 2 ^ 64))
is-completed did m Write v line r gpa pamt at x bench made host =
    comes-to-act did m (locked_tree Write v line r gpa) (page_lock gpa ∷ []) (load_of (pamt_at (shared_page gpa)) pamt ∷ load_of (word_at v 4) at ∷ load_of (source Write v r gpa) x ∷ []) (ended_tree Write v line r gpa at x)
    (store_of (target Write v r gpa) x ∷ store_of (word_at v 4) ((at + 1) % 2 ^ 64) ∷ []) (Done (value.Number x)) bench made
    (loaded-host m Write v line r gpa pamt (load_of (word_at v 4) at ∷ load_of (source Write v r gpa) x ∷ []) (ended_tree Write v line r gpa at x) host ((word_at v 4, refl, refl), ((source Write v r gpa, refl, refl), refl))) refl (two-puts m (Word (shared_page gpa) (word_of_gpa gpa)) x (Word v 4) ((at + 1) % 2 ^ 64))

pub completes : {B : Type 0} (did then_did : List Taken → B → Type 0) (m : Machine) (access : Access) (v line r gpa pamt : ℕ) (w : Moved) (bench : B)
    → ((xs : List Taken) → then_did xs bench → did (load_of (pamt_at (shared_page gpa)) pamt ∷ xs) bench) → HasMoved then_did v (source access v r gpa) (target access v r gpa) bench w → says_host pamt ≡ true
    → Turned did m (stands Locked access v line r gpa) bench (stands (Completed w.position w.word) access v line r gpa) (record { event = event.Act; reply = None })
completes did then_did m access v line r gpa pamt w bench more moved host = is-completed did m access v line r gpa pamt w.position w.word bench (more _ moved) host
