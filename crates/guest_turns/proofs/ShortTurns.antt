-- The first event and the last one of a run that is kept in a small record, where its leaf tries a page's lock alone.
use Rattle.std.proofs.Common.{◌≡◌, ◌∙◌, ℕ, Bool, true, false, List, [], ◌∷◌, Some, None, refl, ap}
use Rattle.td_words.specs.declared.machines.Machine.{Machine}
use Rattle.td_words.specs.declared.names.LockName.TheVariants as name
use Rattle.td_words.specs.declared.names.Mode.TheVariants.{Shared}
use Rattle.td_words.specs.declared.refusals.Status.TheVariants.{OperandBusy}
use Rattle.td_words.specs.declared.replies.Reply.{Reply}
use Rattle.td_words.specs.declared.replies.Reply.TheVariants.{Refused}
use Rattle.td_words.specs.Address.{lock_at}
use Rattle.td_words.specs.Place as place
use Rattle.flat_core.specs.Processor.{OfPage}
use Rattle.step_core.specs.declared.steps.WordStep.TheVariants as step
use Rattle.step_core.specs.declared.items.Taken.{Taken}
use Rattle.step_core.specs.declared.items.Taken.TheVariants.{Stepped}
use Rattle.leaf_engine.specs.declared.events.Event.TheVariants as event
use Rattle.leaf_engine.specs.declared.events.Stage.TheVariants as stage
use Rattle.leaf_engine.specs.declared.needs.Need.TheVariants as need
use Rattle.leaf_engine.specs.Trees.{Tree, Lock, answers, settle}
use Rattle.leaf_engine.specs.Turns.{Standing, standing, Turned, grants, tried, last_reply, busy}
use Rattle.guest_turns.specs.Pages.{lock_of}
use Rattle.guest_turns.specs.Turns.{ShortTurned}
use Rattle.guest_turns.proofs.Making.{comes-to-act}

-- the reply that comes before any lock is tried
pub answers-at-once : {A : Type 0} {B : Type 0} (at : A → Standing) (IsAt : Machine → A → Type 0) (did : List Taken → B → Type 0) (m : Machine) (t : Tree) (reply : Reply) (bench : B) → did [] bench → t ≡ answers reply
    → ShortTurned at IsAt did m (standing t stage.Trying [] None) bench None (record { event = event.Act; act = Some reply; reply = Some reply })
answers-at-once at IsAt did m t reply bench nothing is = record {
  stands = standing (answers reply) (stage.Answered reply) [] None;
  turned = comes-to-act did m t [] [] (answers reply) [] reply bench nothing is refl (refl, refl);
  act_is = refl;
  seen = refl;
  inside = tt;
}

-- where a run stands whose first need is a page's lock, once that was tried
abbrev pub behind_try : Bool → (page : ℕ) → Tree → Standing
behind_try true p t = standing t stage.Trying (lock_of p ∷ []) None
behind_try false p t = standing t (stage.Undoing (name.Page p) (lock_at p)) [] None

tried-so : (t further : Tree) (p : ℕ) (granted : Bool) → behind_try granted p (settle further) ≡ tried (standing t stage.Trying [] None) (settle further) (name.Page p) (lock_at p) Shared granted
tried-so t further p true = refl
tried-so t further p false = refl

unanswered : (t : Tree) (p : ℕ) (granted : Bool) → None ≡ last_reply (behind_try granted p t).stage (behind_try granted p t).held
unanswered t p true = refl
unanswered t p false = refl

pub tries-page : {B : Type 0} (did : List Taken → B → Type 0) (m : Machine) (t further : Tree) (p saw : ℕ) (granted : Bool) (bench : B)
    → did (Stepped (step.Add (lock_at p) 1) saw ∷ []) bench → granted ≡ grants Shared saw → t ≡ Lock (OfPage p) (place.Lock p) Shared further
    → Turned did m (standing t stage.Trying [] None) bench (behind_try granted p (settle further)) (record { event = event.Try (name.Page p) Shared granted; reply = None })
tries-page did m t further p saw granted bench made by is = (
  Stepped (step.Add (lock_at p) 1) saw ∷ [],
  made,
  record {
    turn = record {
      loads = [];
      tree = Lock (OfPage p) (place.Lock p) Shared further;
      need = need.Lock (name.Page p) (lock_at p) Shared;
      loaded = is;
      gives = refl;
      comes = record {
        seen = saw;
        items = refl;
        event = ap (λ (b : Bool). event.Try (name.Page p) Shared b) by;
        after = tried-so t further p granted ∙ ap (λ (b : Bool). tried (standing t stage.Trying [] None) (settle further) (name.Page p) (lock_at p) Shared b) by;
      };
    };
    reply = unanswered (settle further) p granted;
  },
)

-- the last event, after which nothing is kept

pub takes-back : {A : Type 0} {B : Type 0} (at : A → Standing) (IsAt : Machine → A → Type 0) (did : List Taken → B → Type 0) (m : Machine) (t : Tree) (p answer : ℕ) (bench : B) → did (Stepped (step.Sub (lock_at p) 1) answer ∷ []) bench
    → ShortTurned at IsAt did m (standing t (stage.Undoing (name.Page p) (lock_at p)) [] None) bench None (record { event = event.Undo (name.Page p); act = None; reply = Some (Refused (OperandBusy (name.Page p))) })
takes-back at IsAt did m t p answer bench made = record {
  stands = standing t (busy (name.Page p)) [] None;
  turned = (_, made, record { turn = record { items = (answer, refl); event = refl; after = refl }; reply = refl });
  act_is = refl;
  seen = refl;
  inside = tt;
}

pub gives-back : {A : Type 0} {B : Type 0} (at : A → Standing) (IsAt : Machine → A → Type 0) (did : List Taken → B → Type 0) (m : Machine) (rest : Tree) (p : ℕ) (reply : Reply) (answer : ℕ) (bench : B) → did (Stepped (step.Sub (lock_at p) 1) answer ∷ []) bench
    → ShortTurned at IsAt did m (standing rest (stage.Answered reply) (lock_of p ∷ []) None) bench None (record { event = event.Free (name.Page p); act = None; reply = Some reply })
gives-back at IsAt did m rest p reply answer bench made = record {
  stands = standing rest (stage.Answered reply) [] None;
  turned = (_, made, record { turn = (record { newest = lock_of p; held_are = refl; items = (answer, refl); event = refl }, refl); reply = refl });
  act_is = refl;
  seen = refl;
  inside = tt;
}
