-- The pieces that are steps on lock words: undos, releases and tries.
use Rattle.mrtd_measure.specs.declared.measures.Measure.{Measure}
use Rattle.std.proofs.Common.{◌≡◌, ℕ, Bool, true, false, ◌||◌, List, [], ◌∷◌, ◌++◌, length, None, refl, ap, sym, ◌∙◌, subst, Option}
use Rattle.td_words.specs.declared.names.LockName.{LockName}
use Rattle.td_words.specs.declared.names.Mode.{Mode}
use Rattle.td_words.specs.declared.names.Mode.TheVariants.{Shared, Exclusive}
use Rattle.td_words.specs.declared.machines.Machine.{Machine}
use Rattle.td_words.specs.declared.replies.Reply.{Reply}
use Rattle.td_words.specs.Place.{WordPlace, address}
use Rattle.flat_core.specs.Processor.{LockId, OfPage, OfOp, OfTree, OfEpoch, OfRtmr, OfKeys, Held, Phase, Trying, Undoing, Answered}
use Rattle.flat_core.specs.Opening.{Opening}
use Rattle.flat_core.specs.Row.{Move, Attempts, Undoes, Releases, next, next_in}
use Rattle.flat_core.specs.Event.{State}
use Rattle.leaf_engine.specs.Doing.{event_of}
use Rattle.word_rules.specs.Guards.{Grip}
use Rattle.word_rules.specs.Permissions.{Tries as MayTry}
use Rattle.lock_words.specs.Grips.{HoldTdrs, HoldsTdr, UndoTdr}
use Rattle.lock_words.specs.LockWords.{place_of, IsNext}
use Rattle.step_core.specs.declared.steps.WordStep.{WordStep}
use Rattle.step_core.specs.declared.steps.WordStep.TheVariants as step
use Rattle.step_core.specs.Locks.{weight_of}
use Rattle.step_core.specs.Words.{address_of, answer_of}
use Rattle.step_core.specs.Items.{Table}
use Rattle.step_core.specs.declared.items.Taken.{Taken}
use Rattle.step_core.specs.declared.items.Taken.TheVariants.{Stepped}
use Rattle.leaf_engine.specs.declared.events.Event.{Event as RunEvent}
use Rattle.leaf_engine.specs.declared.events.HeldLock.{HeldLock}
use Rattle.leaf_engine.specs.declared.events.Stage.{Stage}
use Rattle.leaf_engine.specs.declared.events.Stage.TheVariants as stages
use Rattle.leaf_engine.specs.declared.needs.Need.TheVariants as need
use Rattle.leaf_engine.specs.Changes.{Memory}
use Rattle.leaf_engine.specs.Trees.{Tree, Lock, Load, Test, End, Since, feed, settle}
use Rattle.leaf_engine.specs.Means.{Task, Instant, work_of, hold}
use Rattle.leaf_engine.specs.Decides.{Wants, IsHand}
use Rattle.leaf_engine.specs.Follows.{granted, Comes}
use Rattle.leaf_engine.specs.Turns.{Standing, Advances, TurnBy, TakesBack, GivesBack, has_ended, tried, try_step, grants}
use Rattle.leaf_engine.specs.Calls.{IsLockAt, AreLocks, IsStage}
use Rattle.leaf_engine.specs.OwnLists.{Piece, Marked, joined, WordLp}
use Rattle.leaf_engine.proofs.Decided.{settled}
use Rattle.leaf_engine.proofs.Following.{leaves-follow-rows}
use Rattle.leaf_engine.proofs.Calling.{snoc}
use Rattle.merge_laws.proofs.Holding.{bare, locks_at, lock_grip_of, may-try}
use Rattle.merge_laws.proofs.Standing.{Trees, Does, task_for, moment, Leads, TurnsTo, Laws, HandOf, Position, Rest}
use Rattle.merge_laws.proofs.Others.{at-moment, hold-is, due-move}
use Rattle.merge_laws.proofs.Worlds.{world-stays, moves-tried, has-moves}
use Rattle.merge_laws.proofs.LockSteps.{OneStep, lock-step}
use Rattle.merge_laws.proofs.Pieces.{Came, AtTurn}

-- where it then is, with the turns that are left
rest-after : (o : Opening) (trees : Trees) (p : ℕ) (s : State) (d : Does) (e : RunEvent) (run' : Standing) (tps : List (List Piece)) (end_ : WordLp) → Leads o trees s p d → HandOf run'
    → TurnsTo o trees p (d.after e run') tps end_ → Rest o trees p (d.after e run') [] [] (joined tps) end_
rest-after o trees p s d e run' tps end_ leads ho own = record {
  owed = [];
  owes_are = refl;
  swaps_are = refl;
  hasher = run'.hasher;
  hand = ho.hand;
  in_hand = ho.is;
  items = [];
  last = run'.hasher;
  are = λ i. (refl, i);
  last_is = leads.after_run e run' run'.hasher refl;
  turns = tps;
  pieces = refl;
  own = own;
}

came-by : (ls : Laws) (o : Opening) (trees : Trees) (s : State) (mem : Memory) (t : Table) (pos : ℕ → Position) (p : ℕ) (d : Does) (mv : Move Reply) (run run' : Standing) (st : WordStep) (a : ℕ) (q : WordPlace) (e : RunEvent)
    (tps : List (List Piece)) (end_ : WordLp) → AtTurn o trees s mem t pos p d run → (pos p).owes ≡ [] → OneStep o s p d mv run run' st a q e → a ≡ answer_of t.words st
    → TurnsTo o trees p (d.after e run') tps end_ → Came o trees p s t pos (Marked (Stepped st a)) (joined tps) end_
came-by ls o trees s mem t pos p d mv run run' st a q e tps end_ at none one an own =
    let m = lock-step ls o trees s mem t pos p d mv run run' st a q e at.are at.known at.all at.inside at.here at.leads at.bundles none at.no_swaps at.runs at.hand one an in
    record {
      memory = m.memory;
      now = record { at = d.after e run'; owes = []; swaps = []; fill = None };
      stands = m.stands;
      rest = rest-after o trees p s d e run' tps end_ at.leads one.hand own;
    }

-- the undo
pub undo-piece : (ls : Laws) (o : Opening) (trees : Trees) (s : State) (mem : Memory) (t : Table) (pos : ℕ → Position) (p : ℕ) (d : Does) (run run' : Standing) (items : List Taken) (e : RunEvent) (name : LockName) (at : ℕ)
    (tps : List (List Piece)) (end_ : WordLp) → AtTurn o trees s mem t pos p d run → (pos p).owes ≡ [] → run.stage ≡ stages.Undoing name at → (turn : TurnBy run.stage o.machine run items run' e) → (tb : TakesBack run name at items run' e)
    → tb.items.0 ≡ answer_of t.words (step.Sub at 1)
    → TurnsTo o trees p (d.after e run') tps end_
    → Came o trees p s t pos (Marked (Stepped (step.Sub at 1) tb.items.0)) (joined tps) end_
undo-piece ls o trees s mem t pos p d run run' items e name at tps end_ a none st turn tb an own =
    by d.far.phase refl (subst (λ (z : Stage). IsStage o.machine s.world z d.far.phase) st a.runs.at.stage)
  where
    by : (ph : Phase Reply) → d.far.phase ≡ ph → IsStage o.machine s.world (stages.Undoing name at) ph → Came o trees p s t pos (Marked (Stepped (step.Sub at 1) tb.items.0)) (joined tps) end_
    by Trying h i = absurd i
    by (Answered r) h i = absurd i
    by (Undoing l) h i =
        let tdr : HoldsTdr (locks_at (s.lps p)) l = subst (λ (z : Phase Reply). UndoTdr z (locks_at (s.lps p))) h a.here.undo_tdr in
        let moves = has-moves d.meaning d.far (a.here.doing mem).single (λ y. let no : Undoing l ≡ Trying = sym h ∙ y in cc) in
        let next : IsNext o s p (event_of d.meaning (Undoes l)) = subst (λ (z : Phase Reply). IsNext o s p (event_of d.meaning (next_in ((work_of d.meaning).items s.world) z d.far.held))) h (a.here.doing mem).next in
        let one : OneStep o s p d (Undoes l) run run' (step.Sub at 1) tb.items.0 (place_of s.world l) e = record {
          turn = subst (λ (z : List Taken). TurnBy run.stage o.machine run z run' e) tb.items.1 turn;
          going = a.going;
          hand = record {
            hand = a.hand.hand;
            is = subst (λ (h : Option Measure). IsHand h a.hand.hand) (sym (ap (λ (z : Standing). z.hasher) tb.after)) a.hand.is;
            trying = λ z. (let bad = sym (ap (λ (y : Standing). y.stage) tb.after) ∙ z in cc);
          };
          quiet = world-stays o s p d.meaning (Undoes l) moves (λ y. cc) next;
          inside = i.in_machine;
          at = i.at_is;
          tries = may-try o.machine s.world (locks_at (s.lps p)) l a.known.lawful i.stands tdr;
        } in
        came-by ls o trees s mem t pos p d (Undoes l) run run' (step.Sub at 1) tb.items.0 (place_of s.world l) e tps end_ a none one an own

-- the release

or-right : (a b : Bool) → b ≡ true → (a || b) ≡ true
or-right true b e = refl
or-right false b e = e

tdr-more : (h : Held) (hs : List Held) (l : LockId) → HoldsTdr hs l → HoldsTdr (h ∷ hs) l
tdr-more h hs (OfPage p) x = tt
tdr-more h hs (OfOp t) x = or-right _ _ x
tdr-more h hs (OfTree t) x = or-right _ _ x
tdr-more h hs (OfEpoch t) x = or-right _ _ x
tdr-more h hs (OfRtmr t) x = or-right _ _ x
tdr-more h hs OfKeys x = tt

pub free-piece : (ls : Laws) (o : Opening) (trees : Trees) (s : State) (mem : Memory) (t : Table) (pos : ℕ → Position) (p : ℕ) (d : Does) (run run' : Standing) (items : List Taken) (e : RunEvent) (r : Reply)
    (tps : List (List Piece)) (end_ : WordLp) → AtTurn o trees s mem t pos p d run → (pos p).owes ≡ [] → run.stage ≡ stages.Answered r → (turn : TurnBy run.stage o.machine run items run' e) → (gb : GivesBack run.held items run'.held e) → run' ≡ record run { held = run'.held }
    → gb.items.0 ≡ answer_of t.words (step.Sub gb.newest.at (weight_of gb.newest.mode))
    → TurnsTo o trees p (d.after e run') tps end_
    → Came o trees p s t pos (Marked (Stepped (step.Sub gb.newest.at (weight_of gb.newest.mode)) gb.items.0)) (joined tps) end_
free-piece ls o trees s mem t pos p d run run' items e r tps end_ a none st turn gb same an own =
    by d.far.phase d.far.held refl refl (subst (λ (z : Stage). IsStage o.machine s.world z d.far.phase) st a.runs.at.stage) a.runs.at.held
  where
    by : (ph : Phase Reply) (hs : List Held) → d.far.phase ≡ ph → d.far.held ≡ hs → IsStage o.machine s.world (stages.Answered r) ph → AreLocks o.machine s.world run.held hs
        → Came o trees p s t pos (Marked (Stepped (step.Sub gb.newest.at (weight_of gb.newest.mode)) gb.items.0)) (joined tps) end_
    by Trying hs h k i locks = absurd i
    by (Undoing l) hs h k i locks = absurd i
    by (Answered r') [] h k i locks =
        let over : has_ended run.stage run.held ≡ true = ap (λ (z : Stage). has_ended z run.held) st ∙ ap (λ (z : List HeldLock). has_ended (stages.Answered r) z) locks in
        let going = a.going in cc
    by (Answered r') (x ∷ hs) h k i locks =
        let l : LockId = x.lock in
        let split = snoc locks.0 run'.held locks.1.0 gb.newest (sym locks.1.1 ∙ gb.held_are) in
        let it : IsLockAt o.machine s.world gb.newest.name gb.newest.at l = subst (λ (z : HeldLock). IsLockAt o.machine s.world z.name z.at l) split.1 locks.1.3 in
        let all : locks_at (s.lps p) ≡ x ∷ (hs ++ d.kept) = sym a.here.locks ∙ ap (λ (z : List Held). z ++ d.kept) k in
        let tdrs = subst (λ (z : List Held). HoldTdrs z) all a.here.held_tdrs in
        let may : MayTry (lock_grip_of s p) s.world (place_of s.world l) =
        subst (λ (z : List Held). MayTry (bare z) s.world (place_of s.world l)) (sym all) (may-try o.machine s.world (x ∷ (hs ++ d.kept)) l a.known.lawful it.stands (tdr-more x (hs ++ d.kept) l tdrs.0)) in
        let moves = has-moves d.meaning d.far (a.here.doing mem).single (λ y. let no : Answered r' ≡ Trying = sym h ∙ y in cc) in
        let next : IsNext o s p (event_of d.meaning (Releases x)) =
        subst (λ (z : List Held). IsNext o s p (event_of d.meaning (next_in ((work_of d.meaning).items s.world) (Answered r') z))) k
        (subst (λ (z : Phase Reply). IsNext o s p (event_of d.meaning (next_in ((work_of d.meaning).items s.world) z d.far.held))) h (a.here.doing mem).next) in
        let one : OneStep o s p d (Releases x) run run' (step.Sub gb.newest.at (weight_of gb.newest.mode)) gb.items.0 (place_of s.world l) e = record {
          turn = subst (λ (z : List Taken). TurnBy run.stage o.machine run z run' e) gb.items.1 turn;
          going = a.going;
          hand = record {
            hand = a.hand.hand;
            is = subst (λ (h : Option Measure). IsHand h a.hand.hand) (sym (ap (λ (z : Standing). z.hasher) same)) a.hand.is;
            trying = λ z. ap (λ (y : Standing). y.hasher) same ∙ a.hand.trying (sym (ap (λ (y : Standing). y.stage) same) ∙ z);
          };
          quiet = world-stays o s p d.meaning (Releases x) moves (λ y. cc) next;
          inside = it.in_machine;
          at = it.at_is;
          tries = may;
        } in
        came-by ls o trees s mem t pos p d (Releases x) run run' (step.Sub gb.newest.at (weight_of gb.newest.mode)) gb.items.0 (place_of s.world l) e tps end_ a none one an own

-- the try

try-at : (at : ℕ) (mode : Mode) → address_of (try_step at mode) ≡ at
try-at at Shared = refl
try-at at Exclusive = refl

tried-hasher : (s : Standing) (t : Tree) (name : LockName) (at : ℕ) (mode : Mode) (b : Bool) → (tried s t name at mode b).hasher ≡ s.hasher
tried-hasher s t name at mode true = refl
tried-hasher s t name at mode false = refl

pub try-piece : (ls : Laws) (o : Opening) (trees : Trees) (s : State) (mem : Memory) (t : Table) (pos : ℕ → Position) (p : ℕ) (d : Does) (run run' : Standing) (e : RunEvent) (tree : Tree) (name : LockName) (at : ℕ) (mode : Mode)
    (seen : ℕ) (tps : List (List Piece)) (end_ : WordLp) → AtTurn o trees s mem t pos p d run → (pos p).owes ≡ [] → (st : run.stage ≡ stages.Trying) → (turn : Advances o.machine run (Stepped (try_step at mode) seen ∷ []) run' e)
    → Wants o.machine.pages (settle run.rest) (need.Lock name at mode) → run' ≡ tried run tree name at mode (grants mode seen) → seen ≡ answer_of t.words (try_step at mode)
    → TurnsTo o trees p (d.after e run') tps end_
    → Came o trees p s t pos (Marked (Stepped (try_step at mode) seen)) (joined tps) end_
try-piece ls o trees s mem t pos p d run run' e tree name at mode seen tps end_ a none st turn gives after an own =
    by (feed d.tree told) (leaves-follow-rows task inst told a.here.means (at-moment o trees s mem t pos p d run a.known a.all a.here a.runs st) (a.runs.at.told st).current)
    (subst (λ (z : Tree). Wants m.pages z (need.Lock name at mode)) (ap settle (a.runs.at.told st).rest ∙ settled d.tree told) gives)
  where
    m : Machine
    m = o.machine

    task : Task
    task = task_for o p d

    inst : Instant
    inst = moment s mem p d

    told : List ℕ
    told = (a.runs.at.told st).told

    hs : List Held
    hs = granted d.tree told []

    grip : hold inst hs ≡ lock_grip_of s p
    grip = ap (hold inst) (a.runs.at.told st).locks ∙ hold-is o s mem p d a.here

    by : (x : Tree) → Comes m inst (work_of task.meaning) hs x (next ((work_of task.meaning).items s.world) (length hs)) → Wants m.pages x (need.Lock name at mode) → Came o trees p s t pos (Marked (Stepped (try_step at mode) seen)) (joined tps) end_
    by (Load v q k) co g = cc
    by (Test b r x) co g = absurd g
    by (End r fs cs') co g = cc
    by (Since r cs') co g = cc
    by (Lock l q mode' x) co g =
        let at-is : at ≡ address m.pages q = cc in
        let mode-is : mode' ≡ mode = cc in
        let may : MayTry (lock_grip_of s p) s.world q = subst (λ (z : Grip). MayTry z s.world q) grip co.1.allowed in
        let next : IsNext o s p (event_of d.meaning (Attempts l mode)) = due-move o s mem p d run a.here a.runs st (Attempts l mode) (co.0 ∙ ap (Attempts l) mode-is) in
        let one : OneStep o s p d (Attempts l mode) run run' (try_step at mode) seen q e = record {
          turn = subst (λ (z : Stage). TurnBy z m run (Stepped (try_step at mode) seen ∷ []) run' e) (sym st) turn;
          going = a.going;
          hand = record {
            hand = a.hand.hand;
            is = subst (λ (h : Option Measure). IsHand h a.hand.hand) (sym (ap (λ (z : Standing). z.hasher) after ∙ tried-hasher run tree name at mode (grants mode seen))) a.hand.is;
            trying = λ z. ap (λ (y : Standing). y.hasher) after ∙ (tried-hasher run tree name at mode (grants mode seen) ∙ a.hand.trying st);
          };
          quiet = world-stays o s p d.meaning (Attempts l mode) (moves-tried d.meaning s.world (length hs) l mode' co.0) (λ y. cc) next;
          inside = co.1.in_machine;
          at = try-at at mode ∙ at-is;
          tries = may;
        } in
        came-by ls o trees s mem t pos p d (Attempts l mode) run run' (try_step at mode) seen q e tps end_ a none one an own
