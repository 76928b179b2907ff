-- What an event of one processor leaves of where another one is.
use Rattle.std.proofs.Common.{◌≡◌, ◌⊎◌, ℕ, ◌<◌, false, ◌==◌, List, [], ◌∷◌, ◌++◌, length, Option, Some, None, refl, ap, sym, ◌∙◌, subst, append_assoc, inl, inr}
use Rattle.td_words.specs.declared.machines.Machine.{Machine}
use Rattle.td_words.specs.declared.replies.Reply.{Reply}
use Rattle.td_words.specs.Place.{WordPlace, IsIn, address}
use Rattle.mrtd_measure.specs.declared.measures.Measure.{Measure}
use Rattle.flat_core.specs.World.{World}
use Rattle.flat_core.specs.Processor.{LockId, Held, Phase, Trying, Undoing, Answered, Guest}
use Rattle.flat_core.specs.Opening.{Opening}
use Rattle.flat_core.specs.Row.{Move, next, next_in}
use Rattle.leaf_engine.specs.Doing.{event_of}
use Rattle.flat_core.specs.Lawful.{Lawful}
use Rattle.flat_core.specs.Event.{State}
use Rattle.word_rules.specs.Guards.{Grip, Apart}
use Rattle.word_rules.specs.Rules.{View, Whole, Grade}
use Rattle.word_rules.specs.Views.{look}
use Rattle.word_rules.specs.Permissions.{Reads, Sees, Owes, Fills, Respects, NoLaterConflict}
use Rattle.step_core.specs.Items.{Table}
use Rattle.lock_words.specs.Grips.{HoldTdrs, HoldsTdr, UndoTdr, grip_of}
use Rattle.lock_words.specs.LockWords.{put_word, IsNext}
use Rattle.leaf_engine.specs.declared.events.HeldLock.{HeldLock}
use Rattle.leaf_engine.specs.declared.events.Stage.{Stage}
use Rattle.leaf_engine.specs.declared.events.Stage.TheVariants as stages
use Rattle.leaf_engine.specs.Changes.{Hand, Memory, Change, Put, PutHash, Raise, Clear, Copy, Swap}
use Rattle.leaf_engine.specs.Trees.{Tree, Lock, Load, Test, End, Since, feed, settle}
use Rattle.leaf_engine.specs.Follows.{granted, Comes}
use Rattle.leaf_engine.specs.Means.{Task, Instant, IsAt, Work, work_of, hold, grasp_of, MayFillAll, MayTakeAll, Loads}
use Rattle.leaf_engine.specs.Decides.{IsHand}
use Rattle.leaf_engine.specs.Turns.{Standing}
use Rattle.leaf_engine.specs.Calls.{IsLockAt, AreLocks, IsStage, IsShown}
use Rattle.leaf_engine.specs.OwnLists.{WordLp}
use Rattle.leaf_engine.proofs.Decided.{settled}
use Rattle.leaf_engine.proofs.Following.{leaves-follow-rows}
use Rattle.leaf_engine.proofs.Showing.{allowed-fills, allowed-takes}
use Rattle.merge_laws.proofs.Virtual.{table_of, holds-memory}
use Rattle.merge_laws.proofs.Stores.{Due, last_at, or_else, EachDue, FillsAt, last-each}
use Rattle.merge_laws.proofs.Filling.{Todo, Puts, Takes, all_todos, EachTodo, EachTaken, dues_of, fills-todo, fills-taken, dues-same}
use Rattle.merge_laws.proofs.Keeping.{keeps-same}
use Rattle.merge_laws.proofs.Holding.{bare, locks_at, lock_grip_of, IsOlder, whole, IsPart, same-part, parts-apart, older-part, locks-part, with-part, grasp-part, hold-part, part-meets, lock-stays, EachTold, StaysOrActs, stays-or-acts, told-reads, told-older, still-current}
use Rattle.merge_laws.proofs.Standing.{Laws, Trees, AreTrees, Known, HandOf, Does, task_for, moment, act_grip, RunsAt, DoesHere, on_table, Fill, Position, seen_by, back, AreLeft, AreLeftLoaded, FillHolds, Pending, Holds, Stands}
use Rattle.lock_words.specs.LockWords.{HeldStand}
use Rattle.merge_laws.proofs.Staying.{GuestStays}
use Rattle.merge_laws.proofs.Inside.{trying-phase}
use Rattle.merge_laws.proofs.Lines.{does-here, stands-stay}

-- words that show a state, on a table that holds them, with the hasher that a run has in hand
pub shown-hand : (o : Opening) (trees : Trees) (s : State) (mem : Memory) (t : Table) (pos : ℕ → Position) (p : ℕ) (d : Does) (run : Standing) → Known o s → Stands o trees s mem t pos → p < length o.calls
    → (ho : HandOf run) → IsShown (task_for o p d) s (record mem { hand = ho.hand }) (table_of o.machine mem.slots mem.words) run
shown-hand o trees s mem t pos p d run known st i ho = record {
  processor = subst (λ (n : ℕ). p < n) (sym known.count) i;
  lawful = known.lawful;
  shown = st.shows;
  memory = holds-memory o.machine run.hasher (record mem { hand = ho.hand }) ho.is;
  exclusive = known.exclusive;
  few_sharers = known.few;
  nothing_to_tell = known.nothing_to_tell;
  facts = known.facts;
  empty_hand = λ e. empty ho.hand (subst (λ (h : Option Measure). IsHand h ho.hand) (ho.trying e) ho.is);
}
  where
    empty : (h : Hand) → IsHand None h → h ≡ None
    empty None x = refl
    empty (Some bytes) x = absurd x

pub shown-of : (o : Opening) (trees : Trees) (s : State) (mem : Memory) (t : Table) (pos : ℕ → Position) (p : ℕ) (d : Does) (run : Standing) → Known o s → Stands o trees s mem t pos → p < length o.calls
    → run.hasher ≡ None → IsShown (task_for o p d) s mem (table_of o.machine mem.slots mem.words) run
shown-of o trees s mem t pos p d run known st i none =
    let empty : IsHand run.hasher mem.hand = subst (λ (h : Option Measure). IsHand h mem.hand) (sym none) (subst (λ (h : Hand). IsHand None h) (sym st.hand) tt) in
    shown-hand o trees s mem t pos p d run known st i (record { hand = mem.hand; is = empty; trying = λ e. none })

-- the moment at which its leaf's meaning is told, while it is on its way
pub at-moment : (o : Opening) (trees : Trees) (s : State) (mem : Memory) (t : Table) (pos : ℕ → Position) (p : ℕ) (d : Does) (run : Standing) → Known o s → Stands o trees s mem t pos → DoesHere o s p d → RunsAt (task_for o p d) d.far s.world mem.words run → run.stage ≡ stages.Trying → IsAt (task_for o p d) (moment s mem p d)
at-moment o trees s mem t pos p d run known st here ra e = record {
  processor = refl;
  lawful = known.lawful;
  shown = st.shows;
  empty_hand = st.hand;
  nothing_to_tell = known.nothing_to_tell;
  facts = known.facts;
  maker = (here.doing mem).maker (trying-phase o.machine s.world run.stage d.far.phase ra.at.stage e);
}

-- what it holds in an instant is its locks
pub hold-is : (o : Opening) (s : State) (mem : Memory) (p : ℕ) (d : Does) → DoesHere o s p d → hold (moment s mem p d) d.far.held ≡ lock_grip_of s p
hold-is o s mem p d here = ap bare here.locks

-- what it acts under is part of what it has
pub act-part : (o : Opening) (s : State) (mem : Memory) (p : ℕ) (d : Does) → DoesHere o s p d → IsPart (act_grip s mem p d) (grip_of s p)
act-part o s mem p d here = grasp-part d.meaning (moment s mem p d) d.far.held ([], sym here.locks)

-- and its locks are part of that
pub locks-in-act : (o : Opening) (s : State) (mem : Memory) (p : ℕ) (d : Does) → DoesHere o s p d → IsPart (lock_grip_of s p) (act_grip s mem p d)
locks-in-act o s mem p d here = subst (λ (g : Grip). IsPart g (act_grip s mem p d)) (hold-is o s mem p d here) (hold-part d.meaning (moment s mem p d) d.far.held)

-- grips of two processors are apart
pub grips-apart : (ls : Laws) (o : Opening) (s : State) (k p : ℕ) (g h : Grip) → Known o s → k < length o.calls → p < length o.calls → (k == p) ≡ false → IsPart g (grip_of s k) → IsPart h (grip_of s p) → Apart g h
grips-apart ls o s k p g h known j i e u v =
    parts-apart g h (grip_of s k) (grip_of s p) (ls.apart s k p known.exclusive (subst (λ (n : ℕ). k < n) (sym known.count) j) (subst (λ (n : ℕ). p < n) (sym known.count) i) e) u v

-- the move that is due is the flat machine's next event
pub due-move : (o : Opening) (s : State) (mem : Memory) (p : ℕ) (d : Does) (run : Standing) → DoesHere o s p d → (ra : RunsAt (task_for o p d) d.far s.world mem.words run) → (st : run.stage ≡ stages.Trying) → (mv : Move Reply)
    → next ((work_of d.meaning).items s.world) (length (granted d.tree (ra.at.told st).told [])) ≡ mv → IsNext o s p (event_of d.meaning mv)
due-move o s mem p d run here ra st mv e =
    let is : next_in ((work_of d.meaning).items s.world) d.far.phase d.far.held ≡ mv =
    ap (λ (y : Phase Reply). next_in ((work_of d.meaning).items s.world) y d.far.held) (trying-phase o.machine s.world run.stage d.far.phase ra.at.stage st)
    ∙ (ap (λ (hs : List Held). next ((work_of d.meaning).items s.world) (length hs)) (sym (ra.at.told st).locks) ∙ e) in
    subst (λ (y : Move Reply). IsNext o s p (event_of d.meaning y)) is (here.doing mem).next

-- a load of its leaf stays by all that the processor has, or finds what is shown by what it acts under
pub load-stays : (o : Opening) (s : State) (mem : Memory) (p : ℕ) (d : Does) (hs : List Held) (v : View) (q : WordPlace) (t : ℕ → Tree) → DoesHere o s p d → hs ≡ d.far.held
    → Loads (moment s mem p d) (work_of d.meaning) hs v q t → Reads (grip_of s p) s.world q v ⊎ Sees (act_grip s mem p d) s.world q v
load-stays o s mem p d hs v q t here e loads = by (stays-or-acts c k d.far.held v q t (subst (λ (z : List Held). Loads c k z v q t) e loads))
  where
    c : Instant
    c = moment s mem p d

    k : Work
    k = work_of d.meaning

    by : StaysOrActs c k d.far.held v q t → Reads (grip_of s p) s.world q v ⊎ Sees (act_grip s mem p d) s.world q v
    by (inl reads) = inl (part-meets (grasp_of c d.far.held) (grip_of s p) _ _ (with-part s p (d.far.held ++ d.kept) ([], sym here.locks)) reads)
    by (inr sees) = inr sees.0

-- what was told is stable, by what the processor has
abbrev pub IsStable : Machine → World → Grip → List Held → View → WordPlace → Type 0
IsStable m w g ks v q = IsIn m q × Reads g w q v

pub stable-told : (o : Opening) (trees : Trees) (s : State) (mem : Memory) (t : Table) (pos : ℕ → Position) (p : ℕ) (d : Does) (run : Standing) → Known o s → Stands o trees s mem t pos → DoesHere o s p d
    → (ra : RunsAt (task_for o p d) d.far s.world mem.words run) → (e : run.stage ≡ stages.Trying)
    → EachTold (IsStable o.machine s.world (grip_of s p)) d.tree (ra.at.told e).told []
stable-told o trees s mem t pos p d run known st here ra e =
    let task : Task = task_for o p d in
    let told = ra.at.told e in
    let at : IsAt task (moment s mem p d) = at-moment o trees s mem t pos p d run known st here ra e in
    let reads = told-reads o.machine (moment s mem p d) (work_of task.meaning) [] d.tree ((work_of task.meaning).items s.world) told.told (here.means.means (moment s mem p d) at) told.current told.waits in
    let older = told-older d.tree told.told [] _ reads in
    each d.tree told.told [] (λ ks v q x.
    let before : IsOlder (ks ++ d.kept) (locks_at (s.lps p)) =
    subst (λ (all : List Held). IsOlder (ks ++ d.kept) all) here.locks
    (x.0.0, ap (λ (hs : List Held). hs ++ d.kept) (sym told.locks ∙ x.0.1) ∙ append_assoc x.0.0 ks d.kept) in
    (x.1.0, part-meets (grasp_of (moment s mem p d) ks) (grip_of s p) _ _ (with-part s p (ks ++ d.kept) before) x.1.1)) older
  where
    each : {P Q : List Held → View → WordPlace → Type 0} (t : Tree) (told : List ℕ) (hs : List Held) → ((ks : List Held) (v : View) (q : WordPlace) → P ks v q → Q ks v q) → EachTold P t told hs → EachTold Q t told hs
    each (Lock l q m t) [] hs f e = tt
    each (Lock l q m t) (x ∷ xs) hs f e = each t xs (record { lock = l; mode = m } ∷ hs) f e
    each (Load v q k) [] hs f e = tt
    each (Load v q k) (x ∷ xs) hs f e = (f hs v q e.0, each (k (look v x)) xs hs f e.1)
    each (Test b r t) xs hs f e = λ h. each t xs hs f (e h)
    each (End r fs cs) xs hs f e = tt
    each (Since r cs) xs hs f e = tt

-- the fills of a leaf that fills are allowed

-- what it has come to
pub told-end : (o : Opening) (p : ℕ) (d : Does) (w : World) (words : WordPlace → ℕ) (run : Standing) (end_ : Tree) → (ra : RunsAt (task_for o p d) d.far w words run) → (e : run.stage ≡ stages.Trying) → run.rest ≡ end_ → settle end_ ≡ end_
    → feed d.tree (ra.at.told e).told ≡ end_
told-end o p d w words run end_ ra e is same = sym (settled d.tree (ra.at.told e).told) ∙ (ap settle (sym (ra.at.told e).rest ∙ is) ∙ same)

pub fills-allowed : (o : Opening) (trees : Trees) (s : State) (mem : Memory) (t : Table) (pos : ℕ → Position) (p : ℕ) (f : Fill) → Known o s → Stands o trees s mem t pos → DoesHere o s p f.does
    → (a : WordPlace → ℕ) (at : WordLp) (owes : List Due) → FillHolds o trees p s.world mem.words a (s.lps p) at owes f → MayFillAll o.machine (act_grip s mem p f.does) s.world f.fills
fills-allowed o trees s mem t pos p f known st here a at owes h =
    by f.fills f.changes refl
    (subst (λ (x : Tree). Comes o.machine c (work_of d.meaning) hs x (next ((work_of d.meaning).items s.world) (length hs))) (told-end o p d s.world mem.words f.run (End f.answer f.fills f.changes) h.runs h.trying h.rest refl)
    (leaves-follow-rows (task_for o p d) c told here.means (at-moment o trees s mem t pos p d f.run known st here h.runs h.trying) (h.runs.at.told h.trying).current))
  where
    d : Does
    d = f.does

    c : Instant
    c = moment s mem p d

    told : List ℕ
    told = (h.runs.at.told h.trying).told

    hs : List Held
    hs = granted d.tree told []

    by : (fs cs : List Change) → f.fills ≡ fs → Comes o.machine c (work_of d.meaning) hs (End f.answer fs cs) (next ((work_of d.meaning).items s.world) (length hs)) → MayFillAll o.machine (act_grip s mem p d) s.world fs
    by fs cs e (inl co) = subst (λ (z : List Change). MayFillAll o.machine (act_grip s mem p d) s.world z) (sym co.2) tt
    by fs cs e (inr co) =
        subst (λ (z : List Held). MayFillAll o.machine ((work_of d.meaning).grasp c z) s.world fs) (h.runs.at.told h.trying).locks
        (allowed-fills o.machine ((work_of d.meaning).grasp c hs) (grasp_of c hs) s.world fs co.1.fills_allowed)

-- and what it copies, by all that the processor has

taken-part : (g all : Grip) (w : World) (fs : List Change) → IsPart g all → MayTakeAll g w fs → MayTakeAll all w fs
taken-part g all w [] part may = tt
taken-part g all w (Put q x ∷ fs) part may = (tt, taken-part g all w fs part may.1)
taken-part g all w (PutHash q x ∷ fs) part may = (tt, taken-part g all w fs part may.1)
taken-part g all w (Raise q more ∷ fs) part may = (tt, taken-part g all w fs part may.1)
taken-part g all w (Clear p ∷ fs) part may = (tt, taken-part g all w fs part may.1)
taken-part g all w (Copy p q ∷ fs) part may = (λ i l. part-meets g all _ _ part (may.0 i l), taken-part g all w fs part may.1)
taken-part g all w (Swap k made ∷ fs) part may = (tt, taken-part g all w fs part may.1)

pub takes-allowed : (o : Opening) (trees : Trees) (s : State) (mem : Memory) (t : Table) (pos : ℕ → Position) (p : ℕ) (f : Fill) → Known o s → Stands o trees s mem t pos → DoesHere o s p f.does
    → (a : WordPlace → ℕ) (at : WordLp) (owes : List Due) → FillHolds o trees p s.world mem.words a (s.lps p) at owes f → MayTakeAll (grip_of s p) s.world f.fills
takes-allowed o trees s mem t pos p f known st here a at owes h =
    by f.fills f.changes refl
    (subst (λ (x : Tree). Comes o.machine c (work_of d.meaning) hs x (next ((work_of d.meaning).items s.world) (length hs))) (told-end o p d s.world mem.words f.run (End f.answer f.fills f.changes) h.runs h.trying h.rest refl)
    (leaves-follow-rows (task_for o p d) c told here.means (at-moment o trees s mem t pos p d f.run known st here h.runs h.trying) (h.runs.at.told h.trying).current))
  where
    d : Does
    d = f.does

    c : Instant
    c = moment s mem p d

    told : List ℕ
    told = (h.runs.at.told h.trying).told

    hs : List Held
    hs = granted d.tree told []

    by : (fs cs : List Change) → f.fills ≡ fs → Comes o.machine c (work_of d.meaning) hs (End f.answer fs cs) (next ((work_of d.meaning).items s.world) (length hs)) → MayTakeAll (grip_of s p) s.world fs
    by fs cs e (inl co) = subst (λ (z : List Change). MayTakeAll (grip_of s p) s.world z) (sym co.2) tt
    by fs cs e (inr co) =
        taken-part (grasp_of c d.far.held) (grip_of s p) s.world fs (with-part s p (d.far.held ++ d.kept) ([], sym here.locks))
        (subst (λ (z : List Held). MayTakeAll (grasp_of c z) s.world fs) (h.runs.at.told h.trying).locks
        (allowed-takes o.machine ((work_of d.meaning).grasp c hs) (grasp_of c hs) s.world fs co.1.fills_allowed))

-- those that are made, and those that are left
pub record FillMay (m : Machine) (g : Grip) (w : World) (words : WordPlace → ℕ) (f : Fill) : Type 0 where
  pub made : EachDue (FillsAt m g w) f.made
  pub left : EachTodo m g w f.left
  pub all : EachTodo m g w (all_todos f.fills)

todos-right : (m : Machine) (g : Grip) (w : World) (xs ys : List Todo) → EachTodo m g w (xs ++ ys) → EachTodo m g w ys
todos-right m g w [] ys e = e
todos-right m g w (Puts d ∷ xs) ys e = todos-right m g w xs ys e.1
todos-right m g w (Takes a b ∷ xs) ys e = todos-right m g w xs ys e.1

dues-left : (P : WordPlace → Type 0) (xs ys : List Due) → EachDue P (xs ++ ys) → EachDue P xs
dues-left P [] ys e = tt
dues-left P (x ∷ xs) ys e = (e.0, dues-left P xs ys e.1)

todo-dues : (m : Machine) (g : Grip) (w : World) (ts : List Todo) (a : WordPlace → ℕ) → EachTodo m g w ts → EachDue (FillsAt m g w) (dues_of ts a)
todo-dues m g w [] a e = tt
todo-dues m g w (Puts d ∷ ts) a e = (e.0, todo-dues m g w ts (put_word a d.at d.word) e.1)
todo-dues m g w (Takes f q ∷ ts) a e = ((e.0.1, e.0.2), todo-dues m g w ts (put_word a q (a f)) e.1)

taken-right : (P : WordPlace → Type 0) (xs ys : List Todo) → EachTaken P (xs ++ ys) → EachTaken P ys
taken-right P [] ys e = e
taken-right P (Puts d ∷ xs) ys e = taken-right P xs ys e
taken-right P (Takes a b ∷ xs) ys e = taken-right P xs ys e.1

-- the words that it copies, of those that are left, and of all
pub record FillTakes (g : Grip) (w : World) (f : Fill) : Type 0 where
  pub left : EachTaken (λ q. Reads g w q Whole) f.left
  pub all : EachTaken (λ q. Reads g w q Whole) (all_todos f.fills)

pub fill-takes : (o : Opening) (trees : Trees) (s : State) (mem : Memory) (t : Table) (pos : ℕ → Position) (p : ℕ) (f : Fill) → Known o s → Stands o trees s mem t pos → DoesHere o s p f.does
    → (a : WordPlace → ℕ) (at : WordLp) (owes : List Due) → FillHolds o trees p s.world mem.words a (s.lps p) at owes f → FillTakes (grip_of s p) s.world f
fill-takes o trees s mem t pos p f known st here a at owes h = record { left = left h.left; all = all }
  where
    all : EachTaken (λ (q : WordPlace). Reads (grip_of s p) s.world q Whole) (all_todos f.fills)
    all = fills-taken (grip_of s p) s.world f.fills (takes-allowed o trees s mem t pos p f known st here a at owes h)

    left : AreLeft (all_todos f.fills) f.left ⊎ AreLeftLoaded (all_todos f.fills) f.left → EachTaken (λ (q : WordPlace). Reads (grip_of s p) s.world q Whole) f.left
    left (inl l) = taken-right (λ (q : WordPlace). Reads (grip_of s p) s.world q Whole) l.done f.left (subst (λ (z : List Todo). EachTaken (λ (q : WordPlace). Reads (grip_of s p) s.world q Whole) z) l.is all)
    left (inr l) =
        let e = taken-right (λ (q : WordPlace). Reads (grip_of s p) s.world q Whole) l.done (Takes l.from l.at ∷ l.further) (subst (λ (z : List Todo). EachTaken (λ (q : WordPlace). Reads (grip_of s p) s.world q Whole) z) l.is all) in
        subst (λ (z : List Todo). EachTaken (λ (q : WordPlace). Reads (grip_of s p) s.world q Whole) z) (sym l.left_is) e.1

pub fill-may : (o : Opening) (trees : Trees) (s : State) (mem : Memory) (t : Table) (pos : ℕ → Position) (p : ℕ) (f : Fill) → Known o s → Stands o trees s mem t pos → DoesHere o s p f.does
    → (a : WordPlace → ℕ) (at : WordLp) (owes : List Due) → FillHolds o trees p s.world mem.words a (s.lps p) at owes f → FillMay o.machine (act_grip s mem p f.does) s.world mem.words f
fill-may o trees s mem t pos p f known st here a at owes h = record {
  made = dues-left (FillsAt o.machine g s.world) f.made (dues_of f.left (seen_by f.made mem.words)) (subst (λ (z : List Due). EachDue (FillsAt o.machine g s.world) z) (sym h.stores) (todo-dues o.machine g s.world (all_todos f.fills) mem.words all));
  left = left h.left;
  all = all;
}
  where
    g : Grip
    g = act_grip s mem p f.does

    all : EachTodo o.machine g s.world (all_todos f.fills)
    all = fills-todo o.machine g s.world f.fills (fills-allowed o trees s mem t pos p f known st here a at owes h)

    left : AreLeft (all_todos f.fills) f.left ⊎ AreLeftLoaded (all_todos f.fills) f.left → EachTodo o.machine g s.world f.left
    left (inl l) = todos-right o.machine g s.world l.done f.left (subst (λ (z : List Todo). EachTodo o.machine g s.world z) l.is all)
    left (inr l) =
        let e = todos-right o.machine g s.world l.done (Takes l.from l.at ∷ l.further) (subst (λ (z : List Todo). EachTodo o.machine g s.world z) l.is all) in
        subst (λ (z : List Todo). EachTodo o.machine g s.world z) (sym l.left_is) ((e.0.1, e.0.2), e.1)

-- locks stay where they are through another's act
lock-kept : (ls : Laws) (m : Machine) (w w' : World) (hs : List Held) (g' : Grip) (l : LockId) (name : Rattle.td_words.specs.declared.names.LockName.LockName) (at : ℕ) → Lawful m w → Respects g' w w' → Apart (bare hs) g' → HoldsTdr hs l
    → IsLockAt m w name at l → IsLockAt m w' name at l
lock-kept ls m w w' hs g' l name at lawful r ap_ h it =
    let k = lock-stays ls.stay m w w' hs g' l lawful r ap_ h it.stands in
    record {
      name_is = it.name_is;
      at_is = it.at_is ∙ ap (address m.pages) (sym k.0);
      in_machine = subst (λ (z : WordPlace). IsIn m z) (sym k.0) it.in_machine;
      stands = k.1;
    }

older-more : (h : Held) (hs all : List Held) → IsOlder (h ∷ hs) all → IsOlder hs all
older-more h hs all (newer, e) = (newer ++ h ∷ [], e ∙ sym (append_assoc newer (h ∷ []) hs))

locks-kept : (ls : Laws) (m : Machine) (w w' : World) (all hs kept : List Held) (g' : Grip) (held : List HeldLock) → Lawful m w → Respects g' w w' → ((xs : List Held) → IsOlder xs all → Apart (bare xs) g') → IsOlder (hs ++ kept) all → HoldTdrs (hs ++ kept)
    → AreLocks m w held hs → AreLocks m w' held hs
locks-kept ls m w w' all [] kept g' held lawful r apart older h a = a
locks-kept ls m w w' all (x ∷ hs) kept g' held lawful r apart older h a =
    let further = older-more x (hs ++ kept) all older in (
      a.0,
      (
        a.1.0,
        a.1.1,
        a.1.2,
        lock-kept ls m w w' (hs ++ kept) g' x.lock a.1.0.name a.1.0.at lawful r (apart (hs ++ kept) further) h.0 a.1.3,
        locks-kept ls m w w' all hs kept g' a.0 lawful r apart further h.1 a.1.4,
      ),
    )

stage-kept : (ls : Laws) (m : Machine) (w w' : World) (hs : List Held) (g' : Grip) (st : Stage) (ph : Phase Reply) → Lawful m w → Respects g' w w' → Apart (bare hs) g' → UndoTdr ph hs → IsStage m w st ph → IsStage m w' st ph
stage-kept ls m w w' hs g' stages.Trying Trying lawful r a u i = i
stage-kept ls m w w' hs g' stages.Trying (Undoing l) lawful r a u i = absurd i
stage-kept ls m w w' hs g' stages.Trying (Answered x) lawful r a u i = absurd i
stage-kept ls m w w' hs g' (stages.Undoing name at) Trying lawful r a u i = absurd i
stage-kept ls m w w' hs g' (stages.Undoing name at) (Undoing l) lawful r a u i = lock-kept ls m w w' hs g' l name at lawful r a u i
stage-kept ls m w w' hs g' (stages.Undoing name at) (Answered x) lawful r a u i = absurd i
stage-kept ls m w w' hs g' (stages.Answered reply) Trying lawful r a u i = absurd i
stage-kept ls m w w' hs g' (stages.Answered reply) (Undoing l) lawful r a u i = absurd i
stage-kept ls m w w' hs g' (stages.Answered reply) (Answered x) lawful r a u i = i

-- the acting processor's grip is apart from this one's, and it looks the same wherever this one has looked
pub record Leaves (m : Machine) (s : State) (k : ℕ) (g' : Grip) (w' : World) (words words' a a' : WordPlace → ℕ) : Type 0 where
  pub apart : (g : Grip) → IsPart g (grip_of s k) → Apart g g'
  pub respects : Respects g' s.world w'
  pub looks : (g : Grip) (v : View) (r : WordPlace) → IsPart g (grip_of s k) → IsIn m r → Reads g s.world r v → look v (words' r) ≡ look v (words r)
  pub still : (q : WordPlace) (g : Grade) → IsIn m q → Owes (lock_grip_of s k) s.world q g → a q ≡ a' q
  pub filled : (g : Grip) (q : WordPlace) → IsPart g (grip_of s k) → IsIn m q → Fills g s.world q → (a q ≡ a' q) × (words' q ≡ words q)

-- a leaf is as far as it was
pub leaf-stays : (ls : Laws) (o : Opening) (trees : Trees) (s : State) (mem : Memory) (t : Table) (pos : ℕ → Position) (k : ℕ) (d : Does) (run : Standing) (w' : World) (words' a a' : WordPlace → ℕ) (g' : Grip) → Known o s → Stands o trees s mem t pos
    → DoesHere o s k d → Leaves o.machine s k g' w' mem.words words' a a' → RunsAt (task_for o k d) d.far s.world mem.words run → RunsAt (task_for o k d) d.far w' words' run
leaf-stays ls o trees s mem t pos k d run w' words' a a' g' known st here lv ra =
    let all : List Held = d.far.held ++ d.kept in
    let apart : (xs : List Held) → IsOlder xs all → Apart (bare xs) g' = λ xs older. lv.apart (bare xs) (older-part s k xs (subst (λ (z : List Held). IsOlder xs z) here.locks older)) in
    record {
      at = record {
        stage = stage-kept ls o.machine s.world w' all g' run.stage d.far.phase known.lawful lv.respects (apart all (whole all)) (subst (λ (z : List Held). UndoTdr d.far.phase z) (sym here.locks) here.undo_tdr) ra.at.stage;
        held = locks-kept ls o.machine s.world w' all d.far.held d.kept g' run.held known.lawful lv.respects apart (whole all) (subst (λ (z : List Held). HoldTdrs z) (sym here.locks) here.held_tdrs) ra.at.held;
        told = λ e.
            let told = ra.at.told e in
            record {
              told = told.told;
              current = still-current d.tree told.told [] mem.words words' _ (stable-told o trees s mem t pos k d run known st here ra e) (λ hs v q x. lv.looks (grip_of s k) v q (same-part (grip_of s k)) x.0 x.1) told.current;
              waits = told.waits;
              rest = told.rest;
              locks = told.locks;
            };
      };
      trying = ra.trying;
    }

pub others-stay : (ls : Laws) (o : Opening) (trees : Trees) (s : State) (mem : Memory) (t : Table) (pos : ℕ → Position) (k : ℕ) (w' : World) (words' a' : WordPlace → ℕ) (g' : Grip) → AreTrees o trees → Known o s → Stands o trees s mem t pos
    → k < length o.calls → ((g : Guest) → (s.lps k).guest ≡ Some g → GuestStays s.world w' g.tdr g.vp) → HeldStand w' (s.lps k).call.held → Leaves o.machine s k g' w' mem.words words' (on_table o.machine t) a' → Holds o trees k w' words' a' (s.lps k) (pos k)
others-stay ls o trees s mem t pos k w' words' a' g' are known st i guest-stays stand lv =
    let h = st.holds k i in
    record {
      stands = stands-stay o trees s k (pos k).at w' mem.words words' are known i guest-stays stand (λ d run here. leaf-stays ls o trees s mem t pos k d run w' words' (on_table o.machine t) a' g' known st here lv) h.stands;
      due = pending (pos k).fill h.due;
    }
  where
    held : Grip
    held = lock_grip_of s k

    later : NoLaterConflict held g' s.world w'
    later = ls.acts held g' s.world w' (lv.apart held (locks-part s k)) lv.respects

    filling : (f : Fill) → FillHolds o trees k s.world mem.words (on_table o.machine t) (s.lps k) (pos k).at (pos k).owes f → FillHolds o trees k w' words' a' (s.lps k) (pos k).at (pos k).owes f
    filling f h = record {
      is = h.is;
      at_is = h.at_is;
      runs = leaf-stays ls o trees s mem t pos k f.does f.run w' words' (on_table o.machine t) a' g' known st here lv h.runs;
      trying = h.trying;
      rest = h.rest;
      left = h.left;
      stores =
          ap (λ (ds : List Due). f.made ++ ds) (dues-same o.machine g s.world (λ (q : WordPlace). Reads (grip_of s k) s.world q Whole) f.left (seen_by f.made words') (seen_by f.made mem.words) may.left takes.left (λ q in_q reads. ap (or_else (last_at f.made q)) (same-words q in_q reads)))
          ∙ (h.stores ∙ sym (dues-same o.machine g s.world (λ (q : WordPlace). Reads (grip_of s k) s.world q Whole) (all_todos f.fills) words' mem.words may.all takes.all same-words));
      there = λ r x in_r e. sym (lv.filled g r (act-part o s mem k f.does here) in_r (last-each ls.places (FillsAt o.machine g s.world) f.made r x may.made e).1).0 ∙ h.there r x in_r e;
      undo = λ r. h.undo r ∙ by r (last_at f.made r) refl;
    }
      where
        here : DoesHere o s k f.does
        here = does-here o trees s k f.does (pos k).at mem.words are known i (st.holds k i).stands h.is

        g : Grip
        g = act_grip s mem k f.does

        may : FillMay o.machine g s.world mem.words f
        may = fill-may o trees s mem t pos k f known st here (on_table o.machine t) (pos k).at (pos k).owes h

        takes : FillTakes (grip_of s k) s.world f
        takes = fill-takes o trees s mem t pos k f known st here (on_table o.machine t) (pos k).at (pos k).owes h

        same-words : (q : WordPlace) → IsIn o.machine q → Reads (grip_of s k) s.world q Whole → words' q ≡ mem.words q
        same-words q in_q reads = lv.looks (grip_of s k) Whole q (same-part (grip_of s k)) in_q reads

        by : (r : WordPlace) (x : Option ℕ) → last_at f.made r ≡ x → back (last_at f.made r) (mem.words r) ≡ back (last_at f.made r) (words' r)
        by r None e = rw e refl
        by r (Some x) e =
            let fills = last-each ls.places (FillsAt o.machine g s.world) f.made r x may.made e in
            ap (back (last_at f.made r)) (sym (lv.filled g r (act-part o s mem k f.does here) fills.0 fills.1).1)

    pending : (f : Option Fill) → Pending o trees k s.world mem.words (on_table o.machine t) (s.lps k) (pos k).at (pos k).owes f → Pending o trees k w' words' a' (s.lps k) (pos k).at (pos k).owes f
    pending None h = keeps-same o.machine held held s.world w' (on_table o.machine t) a' (pos k).owes later.owes_kept lv.still h
    pending (Some f) h = filling f h
