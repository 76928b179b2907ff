-- The events of a host access are turns of its tree.
use Rattle.std.proofs.Common.{◌≡◌, ◌∙◌, ℕ, Bool, true, false, nat_lt, if◌then◌else◌, List, [], ◌∷◌, Some, None, refl, ap, sym, subst}
use Rattle.td_words.specs.declared.machines.Machine.{Machine}
use Rattle.td_words.specs.declared.names.LockName.TheVariants as name
use Rattle.td_words.specs.declared.names.Mode.TheVariants.{Shared}
use Rattle.td_words.specs.declared.refusals.Status.TheVariants as status
use Rattle.td_words.specs.declared.replies.Reply.TheVariants.{Done, Refused}
use Rattle.td_words.specs.declared.replies.Value.TheVariants as value
use Rattle.td_words.specs.Address.{lock_at, pamt_at, word_at}
use Rattle.td_words.specs.Place as place
use Rattle.flat_core.specs.Processor.{OfPage}
use Rattle.step_core.specs.declared.steps.WordStep.TheVariants as step
use Rattle.step_core.specs.declared.items.Taken.{Taken}
use Rattle.step_core.specs.declared.items.Taken.TheVariants.{Stepped}
use Rattle.leaf_engine.specs.declared.events.Event.TheVariants as event
use Rattle.leaf_engine.specs.declared.events.Stage.TheVariants as stage
use Rattle.leaf_engine.specs.Items.{IsLoaded}
use Rattle.leaf_engine.specs.Trees.{Tree, Lock, answers, acts, settle}
use Rattle.leaf_engine.specs.Turns.{standing, Turned, grants}
use Rattle.leaf_parts.specs.Words.{says_host}
use Rattle.guest_turns.specs.Pages.{lock_of}
use Rattle.guest_turns.proofs.Making.{load_of, store_of, a-put, comes-to-act}
use Rattle.guest_turns.proofs.ShortTurns.{answers-at-once, behind_try, tries-page}
use Rattle.host_turns.specs.declared.runs.HostAccess.{HostAccess}
use Rattle.host_turns.specs.declared.runs.HostAccess.TheVariants.{Read, Write}
use Rattle.host_turns.specs.declared.runs.HostEnd.{HostEnd}
use Rattle.host_turns.specs.declared.runs.HostEnd.TheVariants.{Loaded, Stored, NotHost}
use Rattle.host_turns.specs.declared.runs.HostStage.{HostStage}
use Rattle.host_turns.specs.declared.runs.HostStage.TheVariants.{Locked, Ended}
use Rattle.host_turns.specs.declared.runs.HostRun.{HostRun}
use Rattle.host_turns.specs.HostTurns.{changed, host_tree, locked_tree, access_tree, refused, HasAccessed, stands, standing_at, standing_of, IsIn, HostTurned, stage_behind}

-- the page that it names is judged first, and then the word

abbrev lock_tree : HostAccess → (page i : ℕ) → Tree
lock_tree a p i = Lock (OfPage p) (place.Lock p) Shared (locked_tree a p i)

abbrev settled_by : (is_page is_word : Bool) → HostAccess → (page i : ℕ) → Tree
settled_by b c a p i = if b then (if c then lock_tree a p i else answers (Refused (status.OperandInvalid 2))) else answers (Refused (status.OperandInvalid 1))

settled : (m : Machine) (a : HostAccess) (p i : ℕ) → settle (access_tree m a p i) ≡ settled_by (nat_lt p m.pages) (nat_lt i 512) a p i
settled m a p i = refl

pub refuses-page : {B : Type 0} (did : List Taken → B → Type 0) (m : Machine) (a : HostAccess) (p i : ℕ) (bench : B) → did [] bench → nat_lt p m.pages ≡ false
    → HostTurned did m (standing (settle (access_tree m a p i)) stage.Trying [] None) bench None (record { event = event.Act; act = Some (Refused (status.OperandInvalid 1)); reply = Some (Refused (status.OperandInvalid 1)) })
refuses-page did m a p i bench nothing other =
    answers-at-once standing_of IsIn did m (settle (access_tree m a p i)) (Refused (status.OperandInvalid 1)) bench nothing (settled m a p i ∙ ap (λ (b : Bool). settled_by b (nat_lt i 512) a p i) other)

pub refuses-word : {B : Type 0} (did : List Taken → B → Type 0) (m : Machine) (a : HostAccess) (p i : ℕ) (bench : B) → did [] bench → nat_lt p m.pages ≡ true → nat_lt i 512 ≡ false
    → HostTurned did m (standing (settle (access_tree m a p i)) stage.Trying [] None) bench None (record { event = event.Act; act = Some (Refused (status.OperandInvalid 2)); reply = Some (Refused (status.OperandInvalid 2)) })
refuses-word did m a p i bench nothing inside other =
    answers-at-once standing_of IsIn did m (settle (access_tree m a p i)) (Refused (status.OperandInvalid 2)) bench nothing
    (settled m a p i ∙ (ap (λ (b : Bool). settled_by b (nat_lt i 512) a p i) inside ∙ ap (λ (c : Bool). settled_by true c a p i) other))

-- the try
behind-try : (run : HostRun) (granted : Bool) → standing_at run (stage_behind granted) ≡ behind_try granted run.page (locked_tree run.access run.page run.word)
behind-try run true = refl
behind-try run false = refl

tries-own : {B : Type 0} (did : List Taken → B → Type 0) (m : Machine) (run : HostRun) (saw : ℕ) (granted : Bool) (bench : B)
    → did (Stepped (step.Add (lock_at run.page) 1) saw ∷ []) bench → granted ≡ grants Shared saw → run.stage ≡ stage_behind granted → IsIn m run → nat_lt run.page m.pages ≡ true → nat_lt run.word 512 ≡ true
    → HostTurned did m (standing (settle (access_tree m run.access run.page run.word)) stage.Trying [] None) bench (Some run) (record { event = event.Try (name.Page run.page) Shared granted; act = None; reply = None })
tries-own did m run saw granted bench made by at inside page word = record {
  stands = behind_try granted run.page (locked_tree run.access run.page run.word);
  turned = tries-page did m (settle (access_tree m run.access run.page run.word)) (locked_tree run.access run.page run.word) run.page saw granted bench made by
      (settled m run.access run.page run.word ∙ (ap (λ (b : Bool). settled_by b (nat_lt run.word 512) run.access run.page run.word) page ∙ ap (λ (c : Bool). settled_by true c run.access run.page run.word) word));
  act_is = refl;
  seen = ap (λ (s : HostStage). Some (standing_at run s)) at ∙ ap Some (behind-try run granted);
  inside = inside;
}

pub tries : {B : Type 0} (did : List Taken → B → Type 0) (m : Machine) (run : HostRun) (p i saw : ℕ) (granted : Bool) (bench : B) → run.page ≡ p → run.word ≡ i
    → did (Stepped (step.Add (lock_at run.page) 1) saw ∷ []) bench → granted ≡ grants Shared saw → run.stage ≡ stage_behind granted → IsIn m run → nat_lt p m.pages ≡ true → nat_lt i 512 ≡ true
    → HostTurned did m (standing (settle (access_tree m run.access p i)) stage.Trying [] None) bench (Some run) (record { event = event.Try (name.Page run.page) Shared granted; act = None; reply = None })
tries did m run p i saw granted bench same_page same_word made by at inside page word =
    subst (λ (q : ℕ). HostTurned did m (standing (settle (access_tree m run.access q i)) stage.Trying [] None) bench (Some run) (record { event = event.Try (name.Page run.page) Shared granted; act = None; reply = None })) same_page
    (subst (λ (j : ℕ). HostTurned did m (standing (settle (access_tree m run.access run.page j)) stage.Trying [] None) bench (Some run) (record { event = event.Try (name.Page run.page) Shared granted; act = None; reply = None })) same_word
    (tries-own did m run saw granted bench made by at inside (ap (λ (q : ℕ). nat_lt q m.pages) same_page ∙ page) (ap (λ (j : ℕ). nat_lt j 512) same_word ∙ word)))

-- the act

loaded-by : (m : Machine) (a : HostAccess) (p i pamt : ℕ) (is_host : Bool) (xs : List Taken) (u : Tree) → says_host pamt ≡ is_host → IsLoaded m.pages (settle (host_tree a p i is_host)) xs u → IsLoaded m.pages (locked_tree a p i) (load_of (pamt_at p) pamt ∷ xs) u
loaded-by m a p i pamt is_host xs u says behind = ((pamt_at p, refl, refl), subst (λ (b : Bool). IsLoaded m.pages (settle (host_tree a p i b)) xs u) (sym says) behind)

pub is-refused : {B : Type 0} (did : List Taken → B → Type 0) (m : Machine) (a : HostAccess) (p i pamt : ℕ) (bench : B) → did (load_of (pamt_at p) pamt ∷ []) bench → says_host pamt ≡ false
    → Turned did m (stands Locked a p i) bench (stands (Ended (refused a)) a p i) (record { event = event.Act; reply = None })
is-refused did m Read p i pamt bench made other =
    comes-to-act did m (locked_tree Read p i) (lock_of p ∷ []) (load_of (pamt_at p) pamt ∷ []) (answers (Done (value.Number 0))) [] (Done (value.Number 0)) bench made
    (loaded-by m Read p i pamt false [] (answers (Done (value.Number 0))) other refl) refl (refl, refl)
is-refused did m (Write v) p i pamt bench made other =
    comes-to-act did m (locked_tree (Write v) p i) (lock_of p ∷ []) (load_of (pamt_at p) pamt ∷ []) (answers (Refused status.NotHost)) [] (Refused status.NotHost) bench made
    (loaded-by m (Write v) p i pamt false [] (answers (Refused status.NotHost)) other refl) refl (refl, refl)

pub accesses : {B : Type 0} (did then_did : List Taken → B → Type 0) (m : Machine) (a : HostAccess) (p i pamt : ℕ) (came : HostEnd) (bench : B)
    → ((xs : List Taken) → then_did xs bench → did (load_of (pamt_at p) pamt ∷ xs) bench) → HasAccessed then_did a (word_at p i) bench came → says_host pamt ≡ true
    → Turned did m (stands Locked a p i) bench (stands (Ended came) a p i) (record { event = event.Act; reply = None })
accesses did then_did m Read p i pamt (Loaded x) bench more made host =
    comes-to-act did m (locked_tree Read p i) (lock_of p ∷ []) (load_of (pamt_at p) pamt ∷ load_of (word_at p i) x ∷ []) (answers (Done (value.Number x))) [] (Done (value.Number x)) bench (more _ made)
    (loaded-by m Read p i pamt true (load_of (word_at p i) x ∷ []) (answers (Done (value.Number x))) host ((word_at p i, refl, refl), refl)) refl (refl, refl)
accesses did then_did m Read p i pamt Stored bench more made host = absurd made
accesses did then_did m Read p i pamt NotHost bench more made host = absurd made
accesses did then_did m (Write v) p i pamt (Loaded x) bench more made host = absurd made
accesses did then_did m (Write v) p i pamt Stored bench more made host =
    comes-to-act did m (locked_tree (Write v) p i) (lock_of p ∷ []) (load_of (pamt_at p) pamt ∷ []) (acts (Done value.Nothing) (changed (Write v) p i)) (store_of (word_at p i) v ∷ []) (Done value.Nothing) bench (more _ made)
    (loaded-by m (Write v) p i pamt true [] (acts (Done value.Nothing) (changed (Write v) p i)) host refl) refl (a-put m (place.Word p i) v)
accesses did then_did m (Write v) p i pamt NotHost bench more made host = absurd made
