-- What becomes of a processor in a guest by a turn of the leaf of its guest's next step.
use Rattle.std.proofs.Common.{◌≡◌, ℕ, ◌+◌, Bool, true, false, if◌then◌else◌, List, [], ◌∷◌, map, length, Option, Some, None, refl, ap, sym, ◌∙◌, subst}
use Rattle.td_words.specs.declared.machines.Machine.{Machine}
use Rattle.td_words.specs.declared.names.Mode.TheVariants.{Shared, Exclusive}
use Rattle.td_words.specs.declared.replies.Outcome.{Outcome}
use Rattle.td_words.specs.declared.replies.Reply.{Reply}
use Rattle.mrtd_measure.specs.declared.measures.Measure.{Measure}
use Rattle.flat_core.specs.World.{World, Made}
use Rattle.flat_core.specs.Processor.{Held, Phase, Trying, Undoing, Answered, Progress, nothing_yet, Lp}
use Rattle.flat_core.specs.Opening.{Opening}
use Rattle.flat_core.specs.Row.{Item, OperationRow, Move, Attempts, Undoes, Refuses, Succeeds, Releases, Rests, next_in, after_move}
use Rattle.flat_core.specs.Event.{State, Event, next_event, event, after_event, world_after, operation_world, lp_after, call_busy, operation_busy, is_granted}
use Rattle.step_core.specs.Items.{Table}
use Rattle.leaf_engine.specs.declared.events.Event.{Event as RunEvent}
use Rattle.leaf_engine.specs.declared.events.Event.TheVariants as events
use Rattle.leaf_engine.specs.declared.events.HeldLock.{HeldLock}
use Rattle.leaf_engine.specs.declared.events.Stage.{Stage}
use Rattle.leaf_engine.specs.declared.events.Stage.TheVariants as stages
use Rattle.leaf_engine.specs.Changes.{Hand}
use Rattle.leaf_engine.specs.Trees.{Tree, answer_of, added}
use Rattle.leaf_engine.specs.Besides.{beside_of, beside_after}
use Rattle.leaf_engine.specs.Means.{Task, Work, work_of, exit_item, operation_reply, AnswersAs}
use Rattle.leaf_engine.specs.Decides.{IsHand}
use Rattle.leaf_engine.specs.Turns.{Standing, last_reply}
use Rattle.leaf_engine.specs.Calls.{AreLocks, IsStage}
use Rattle.leaf_engine.specs.Doing.{out_move, row_then, event_of, LeafAt, ActsBy, HasCome, LeafAfter, work_world}
use Rattle.leaf_engine.specs.Standing.{out_progress, is_behind, AnswersGuest, IsOfGuest}
use Rattle.leaf_engine.proofs.Calling.{lp-now}
use Rattle.leaf_engine.proofs.GuestActs.{KeepsTds, same-tds, IsRowOf, refused, IsAnswer, completed}

-- the state after an event

pub after-is : (o : Opening) (s : State) (p : ℕ) (e : Event) → next_event o s p ≡ Some e → event o s p ≡ after_event p s (Some e)
after-is o s p e is = ap (λ (x : Option Event). after_event p s x) is

pub at-event : (o : Opening) (s : State) (p : ℕ) (e : Event) → next_event o s p ≡ Some e → (P : World → Lp → Type 0) → P (world_after e s.world) (lp_after s.world (is_granted s e) e (s.lps p)) → P (event o s p).world ((event o s p).lps p)
at-event o s p e is P h =
    subst (λ (z : State). P z.world (z.lps p)) (sym (after-is o s p e is))
    (subst (λ (z : Lp). P (world_after e s.world) z) (sym (lp-now s p (lp_after s.world (is_granted s e) e (s.lps p)))) h)

pub from-event : (o : Opening) (s : State) (p : ℕ) (e : Event) → next_event o s p ≡ Some e → (P : World → Lp → Type 0) → P (event o s p).world ((event o s p).lps p) → P (world_after e s.world) (lp_after s.world (is_granted s e) e (s.lps p))
from-event o s p e is P h =
    subst (λ (z : Lp). P (world_after e s.world) z) (lp-now s p (lp_after s.world (is_granted s e) e (s.lps p)))
    (subst (λ (z : State). P z.world (z.lps p)) (after-is o s p e is) h)

-- what its processor has besides
pub beside-is : (e : RunEvent) (t : Tree) (lp lp' : Lp) (bs : List Made) → HasCome e t lp lp' → let b = beside_after e t (beside_of lp bs) in beside_of lp' b.bundles ≡ b
beside-is events.Act t lp lp' bs h = λ i. record { cached = h.cached i; notes = h.notes i; told = h.told i; bundles = added bs (answer_of t).bundles }
beside-is (events.Try name mode granted) t lp lp' bs h = λ i. record { cached = h.cached i; notes = h.notes i; told = h.told i; bundles = bs }
beside-is (events.Undo name) t lp lp' bs h = λ i. record { cached = h.cached i; notes = h.notes i; told = h.told i; bundles = bs }
beside-is (events.Free name) t lp lp' bs h = λ i. record { cached = h.cached i; notes = h.notes i; told = h.told i; bundles = bs }
beside-is (events.Walk level) t lp lp' bs h = λ i. record { cached = h.cached i; notes = h.notes i; told = h.told i; bundles = bs }
beside-is (events.Word at) t lp lp' bs h = λ i. record { cached = h.cached i; notes = h.notes i; told = h.told i; bundles = bs }
beside-is (events.Count parity) t lp lp' bs h = λ i. record { cached = h.cached i; notes = h.notes i; told = h.told i; bundles = bs }

-- with an empty hand no hasher is in hand
pub no-hasher : (h : Option Measure) (hand : Hand) → hand ≡ None → IsHand h hand → h ≡ None
no-hasher None hand e i = refl
no-hasher (Some h) hand e i = absurd (subst (λ (z : Hand). IsHand (Some h) z) e i)

pub answered-stage : (m : Machine) (w : World) (st : Stage) (r : Reply) → IsStage m w st (Answered r) → st ≡ stages.Answered r
answered-stage m w stages.Trying r i = absurd i
answered-stage m w (stages.Undoing name at) r i = absurd i
answered-stage m w (stages.Answered reply) r i = ap stages.Answered i

-- the position, by how far the operation is
abbrev pub position_of : ℕ → Phase Reply → ℕ
position_of n (Answered r) = if is_behind r then n + 1 else n
position_of n Trying = n
position_of n (Undoing l) = n

-- a single event's turn answers what there was to do
pub record IsSingle (k : Work) (w : World) (e : RunEvent) (stands : Standing) : Type 0 where
  pub answers : AnswersAs k w (answer_of stands.rest)
  pub last : last_reply stands.stage stands.held ≡ Some (answer_of stands.rest).reply

pub single : (o : Opening) (task : Task) (s : State) (own : Progress Reply) (u : Table) (stands : Standing) (e : RunEvent) → own ≡ nothing_yet → (work_of task.meaning).items s.world ≡ [] → LeafAfter o task s own u stands e
    → IsSingle (work_of task.meaning) s.world e stands
single o task s own u stands e fresh none a =
    let k : Work = work_of task.meaning in
    let r : Reply = (answer_of stands.rest).reply in
    let move-is : a.move ≡ Succeeds = sym a.due ∙ (ap (λ (z : Progress Reply). next_in (k.items s.world) z.phase z.held) fresh ∙ ap (λ (z : List (Item Reply)). next_in z Trying []) none) in
    let acts : ActsBy Succeeds e k s.world (answer_of stands.rest) = subst (λ (z : Move Reply). ActsBy z e k s.world (answer_of stands.rest)) move-is a.acts in
    let at : LeafAt task (work_world k Succeeds s.world) a.mem.words stands (record { phase = Answered r; held = own.held }) =
    subst (λ (z : Move Reply). LeafAt task (work_world k z s.world) a.mem.words stands (after_move call_busy (is_granted s (event_of task.meaning z)) r z own)) move-is a.at in
    let held : stands.held ≡ [] = subst (λ (z : List Held). AreLocks task.place.machine (work_world k Succeeds s.world) stands.held z) (ap (λ (z : Progress Reply). z.held) fresh) at.held in
    record {
      answers = acts.1;
      last = ap (λ (z : Stage). last_reply z stands.held) (answered-stage task.place.machine (work_world k Succeeds s.world) stands.stage r at.stage) ∙ ap (λ (z : List HeldLock). last_reply (stages.Answered r) z) held;
    }

-- what an operation's move leaves of it
pub record IsMoved (n v : ℕ) (w w' : World) (granted : Bool) (row : OperationRow) (r : Reply) (mv : Move Reply) (own : Progress Reply) : Type 0 where
  pub keeps : KeepsTds w w'
  pub position : w'.vps.positions v ≡ position_of n (after_move call_busy granted r mv own).phase
  pub answers : AnswersGuest (after_move call_busy granted r mv own).phase
  pub progress : out_progress (after_move call_busy granted r mv own) ≡ after_move operation_busy granted ((row_then row mv).answer w) (out_move mv) (out_progress own)

module _ (n v : ℕ) (w : World) (granted : Bool) (row : OperationRow) (is : IsRowOf v row) (own : Progress Reply) (position : w.vps.positions v ≡ position_of n own.phase) (answers : AnswersGuest own.phase) where
  abbrev Due : Move Reply → Type 0
  Due mv = next_in (map exit_item (row.items w)) own.phase own.held ≡ mv

  abbrev IsOnWay : Move Reply → Type 0
  IsOnWay mv = ((h : Held) → mv ≡ Releases h → ⊥) × (mv ≡ Rests → ⊥)

  not-behind : (mv : Move Reply) → Due mv → IsOnWay mv → w.vps.positions v ≡ n
  not-behind mv due way = by own.phase own.held due position
    where
      by : (ph : Phase Reply) (hs : List Held) → next_in (map exit_item (row.items w)) ph hs ≡ mv → w.vps.positions v ≡ position_of n ph → w.vps.positions v ≡ n
      by Trying hs d q = q
      by (Undoing l) hs d q = q
      by (Answered r) [] d q = absurd (way.1 (sym d))
      by (Answered r) (h ∷ hs) d q = absurd (way.0 h (sym d))

  refused-by : (r : Reply) → Due (Refuses r) → (is_behind r ≡ false) × IsOfGuest r
  refused-by r due = by own.phase own.held due
    where
      by : (ph : Phase Reply) (hs : List Held) → next_in (map exit_item (row.items w)) ph hs ≡ Refuses r → (is_behind r ≡ false) × IsOfGuest r
      by Trying hs d = refused (row.items w) (length hs) r (is.items w) d
      by (Undoing l) hs d = cc
      by (Answered x) [] d = cc
      by (Answered x) (h ∷ hs) d = cc

  pub moved : (r : Reply) (mv : Move Reply) → Due mv → (mv ≡ Succeeds → r ≡ operation_reply (row.notes w) (row.tells w) (row.answer w)) → IsMoved n v w (operation_world (row_then row mv) (out_move mv) w) granted row r mv own
  moved r (Attempts l mode) due done = tried mode granted
    where
      at-n : w.vps.positions v ≡ n
      at-n = not-behind (Attempts l mode) due ((λ h e. cc), (λ e. cc))

      tried : (mode : Rattle.td_words.specs.declared.names.Mode.Mode) (b : Bool) → IsMoved n v w w b row r (Attempts l mode) own
      tried mode true = record { keeps = same-tds w; position = at-n; answers = tt; progress = refl }
      tried Shared false = record { keeps = same-tds w; position = at-n; answers = tt; progress = refl }
      tried Exclusive false = record { keeps = same-tds w; position = at-n; answers = tt; progress = refl }
  moved r (Undoes l) due done = record { keeps = same-tds w; position = not-behind (Undoes l) due ((λ h e. cc), (λ e. cc)); answers = tt; progress = refl }
  moved r (Refuses x) due done =
      let known = refused-by x due in
      record {
        keeps = same-tds w;
        position = not-behind (Refuses x) due ((λ h e. cc), (λ e. cc)) ∙ ap (λ (b : Bool). if b then n + 1 else n) (sym known.0);
        answers = known.1;
        progress = refl;
      }
  moved r Succeeds due done =
      let it : IsAnswer (row.answer w) r = subst (IsAnswer (row.answer w)) (sym (done refl)) (completed (row.notes w) (row.tells w) (row.answer w) (is.answer w)) in
      record {
        keeps = (is.act w).keeps;
        position = (is.act w).position ∙ (ap (λ (z : ℕ). z + 1) (not-behind Succeeds due ((λ h e. cc), (λ e. cc))) ∙ ap (λ (b : Bool). if b then n + 1 else n) (sym it.behind));
        answers = it.of_guest;
        progress = ap (λ (z : Option Outcome). record { phase = Answered z; held = own.held }) it.is;
      }
  moved r (Releases h) due done = record { keeps = same-tds w; position = position; answers = answers; progress = refl }
  moved r Rests due done = record { keeps = same-tds w; position = position; answers = answers; progress = refl }
