-- A turn of a processor is told as the flat machine's next event is.
use Rattle.std.proofs.Common.{◌≡◌, ◌⊎◌, inl, inr, ℕ, ◌+◌, ◌<◌, Bool, true, false, List, [], ◌∷◌, length, Option, Some, None, refl, ap, sym, ◌∙◌, subst}
use Rattle.td_words.specs.declared.machines.Machine.{Machine}
use Rattle.td_words.specs.declared.calls.Call.{Call}
use Rattle.td_words.specs.declared.calls.GuestOp.{GuestOp}
use Rattle.td_words.specs.declared.replies.Outcome.{Outcome}
use Rattle.td_words.specs.declared.replies.Reply.{Reply}
use Rattle.mrtd_measure.specs.declared.measures.Measure.{Measure}
use Rattle.flat_core.specs.World.{World}
use Rattle.flat_core.specs.Processor.{Progress, nothing_yet}
use Rattle.flat_core.specs.Opening.{Opening}
use Rattle.flat_core.specs.Lawful.{Lawful}
use Rattle.flat_core.specs.Row.{Move, Attempts, Undoes, Refuses, Succeeds, Releases, Rests, next_in}
use Rattle.flat_core.specs.Guest.{walk_level}
use Rattle.flat_core.specs.Event.{State, start, Event, next_event, event_for, lines_left, after_event, event, is_granted}
use Rattle.flat_core.specs.Event as flat
use Rattle.flat_core.specs.Run.{play}
use Rattle.word_rules.specs.Cells.{Shows}
use Rattle.step_core.specs.Items.{Table, PlaysTo}
use Rattle.leaf_engine.specs.declared.events.Event.{Event as RunEvent}
use Rattle.leaf_engine.specs.declared.events.Event.TheVariants as events
use Rattle.leaf_engine.specs.declared.events.RunTurn.{RunTurn}
use Rattle.leaf_engine.specs.declared.events.Stage.{Stage}
use Rattle.leaf_engine.specs.declared.events.Stage.TheVariants as stages
use Rattle.td_words.specs.declared.names.LockName.{LockName}
use Rattle.leaf_engine.specs.Changes.{Memory, Hand}
use Rattle.leaf_engine.specs.Trees.{Answer, answer_of}
use Rattle.leaf_engine.specs.Besides.{Beside}
use Rattle.leaf_engine.specs.Decides.{IsHand}
use Rattle.leaf_engine.specs.Means as meaning
use Rattle.leaf_engine.specs.Means.{Task, Meaning, Work, work_of}
use Rattle.leaf_engine.specs.Tables.{IsMemory}
use Rattle.leaf_engine.specs.Turns.{Standing, TurnBy, has_ended, last_reply}
use Rattle.leaf_engine.specs.Guests.{WordGuest, Step, Operates, Accesses, Loads, Leaves, step_of, gives_epoch_back}
use Rattle.leaf_engine.specs.OwnLists.{Piece, taken_in, TurnIn, LeafTable, WordLp, running, CallTurn, EnteredTurn, LinesTurn}
use Rattle.leaf_engine.specs.Merges.{order, AreLeaves, AreCodes, ByItsRow}
use Rattle.leaf_engine.specs.Calls.{IsShown}
use Rattle.leaf_engine.specs.Doing.{event_of, work_world, HasMoves, ActsBy, LeafAfter, LeavesFollow}
use Rattle.leaf_engine.specs.Standing.{RunStands}
use Rattle.leaf_engine.specs.Following.{task_in, task_at, run_in, run_at, then_at, Does, hasher_of, StandsOn, IsRunning, ProcessorsFollow}
use Rattle.leaf_engine.proofs.Pieces.{turn-of-taken}
use Rattle.merge_laws.specs.Laws.{MergesAreRuns}
use Rattle.trace_lines.specs.declared.traces.What.{What}
use Rattle.trace_lines.specs.declared.traces.What.TheVariants as what
use Rattle.trace_lines.specs.declared.traces.Traced.{Traced}
use Rattle.trace_lines.specs.Traces.{move_is, what_is, guest_level, reply_behind, traced, traced_first, traces_from}
use Rattle.trace_laws.specs.Told.{step_told, act_told, event_told, told, turn_told}
use Rattle.trace_laws.specs.Laws.{IsExitOf, WasTold, TurnsAreTold}
use Rattle.trace_laws.proofs.Moves.{move-told}
use Rattle.trace_laws.proofs.Steps.{StepFits, step-fits}

-- where a move is told so, the flat machine's event for it is
what-moved : (s : State) (p : ℕ) (k : Meaning) (mv : Move Reply) (told : What) → HasMoves k → move_is (is_granted s (event_of k mv)) mv ≡ told → what_is s p (event_of k mv) ≡ told
what-moved s p (meaning.OfCall row) mv told h is = is
what-moved s p (meaning.OfOperation t v row) (Attempts l m) told h is = is
what-moved s p (meaning.OfOperation t v row) (Undoes l) told h is = is
what-moved s p (meaning.OfOperation t v row) (Refuses r) told h is = is
what-moved s p (meaning.OfOperation t v row) Succeeds told h is = is
what-moved s p (meaning.OfOperation t v row) (Releases x) told h is = is
what-moved s p (meaning.OfOperation t v row) Rests told h is = is
what-moved s p (meaning.OfAccess t v line access r gpa page) mv told h is = absurd h
what-moved s p (meaning.OfWalk t v access gpa level page) mv told h is = absurd h
what-moved s p (meaning.OfExit t v out) mv told h is = absurd h

-- a single event is an act
acts-at-once : (k : Work) (w : World) (x : Progress Reply) (mv : Move Reply) (e : RunEvent) (answer : Answer) → x ≡ nothing_yet → next_in [] x.phase x.held ≡ mv → ActsBy mv e k w answer → e ≡ events.Act
acts-at-once k w x mv e answer fresh due acts =
    let is : mv ≡ Succeeds = sym due ∙ ap (λ (z : Progress Reply). next_in [] z.phase z.held) fresh in
    (subst (λ (z : Move Reply). ActsBy z e k w answer) is acts).0

only-act : (k : Meaning) (w : World) (x : Progress Reply) (mv : Move Reply) (e : RunEvent) (answer : Answer) → (HasMoves k → ⊥) → x ≡ nothing_yet → next_in ((work_of k).items w) x.phase x.held ≡ mv → ActsBy mv e (work_of k) w answer → e ≡ events.Act
only-act (meaning.OfCall row) w x mv e answer none fresh due acts = absurd (none tt)
only-act (meaning.OfOperation t v row) w x mv e answer none fresh due acts = absurd (none tt)
only-act (meaning.OfAccess t v line access r gpa page) w x mv e answer none fresh due acts = acts-at-once (work_of (meaning.OfAccess t v line access r gpa page)) w x mv e answer fresh due acts
only-act (meaning.OfWalk t v access gpa level page) w x mv e answer none fresh due acts = acts-at-once (work_of (meaning.OfWalk t v access gpa level page)) w x mv e answer fresh due acts
only-act (meaning.OfExit t v out) w x mv e answer none fresh due acts = acts-at-once (work_of (meaning.OfExit t v out)) w x mv e answer fresh due acts

-- What is known of a turn of a leaf's run: the flat machine's next event, by a move of what the leaf means. Where it may try
-- locks its event is told as the move; else it is an act. One that is answered gives a lock back.
record IsMoved (o : Opening) (s : State) (p : ℕ) (task : Task) (run : Standing) (e : RunEvent) : Type 0 where
  move : Move Reply
  next : next_event o s p ≡ Some (event_of task.meaning move)
  moves : HasMoves task.meaning → what_is s p (event_of task.meaning move) ≡ event_told what.Acts e
  single : (HasMoves task.meaning → ⊥) → e ≡ events.Act
  frees : (r : Reply) → run.stage ≡ stages.Answered r → (name : LockName) × (e ≡ events.Free name)

-- by what a processor is in

what-single : (o : Opening) (s : State) (p : ℕ) (task : Task) (run : Standing) (e : RunEvent) (k : Meaning) (act : What) → (m : IsMoved o s p task run e) → task.meaning ≡ k → (HasMoves k → ⊥) → what_is s p (event_of k m.move) ≡ act
    → what_is s p (event_of task.meaning m.move) ≡ event_told act e
what-single o s p task run e k act m is none same =
    ap (λ (z : Meaning). what_is s p (event_of z m.move)) is ∙ (same ∙ ap (event_told act) (sym (m.single (λ h. none (subst HasMoves is h)))))

module _ (o : Opening) (leaf : ℕ → LeafTable) (are : AreLeaves o leaf) (p : ℕ) (s : State) (words : Memory) (c : Call) (cs : List Call) (rs : List Reply) (b : Beside) (e : RunEvent) where
  abbrev t : LeafTable
  t = leaf p

  same-codes : t.codes ≡ o.codes
  same-codes = λ i. λ td n. are.codes p td n i

  -- in a guest, whose walk is at that level
  module _ (x : WordGuest) (level-is : guest_level (s.lps p).guest ≡ walk_level x.walk) where
    abbrev call-line : ℕ
    call-line = length rs + 1

    abbrev leaf_at : Step → Task
    leaf_at st = t.step x.tdr x.vp call-line st

    step-at : (st : Step) → StepFits o call-line x st → ByItsRow o x.tdr x.vp call-line st (leaf_at st).meaning → (run : Standing) → (m : IsMoved o s p (leaf_at st) run e)
        → what_is s p (event_of (leaf_at st).meaning m.move) ≡ event_told (step_told st) e
    step-at (Operates op) fits row run m = m.moves (subst HasMoves (sym (row fits.0 fits.1)) tt)
    step-at (Accesses access r gpa page) fits row run m = what-single o s p (leaf_at (Accesses access r gpa page)) run e (meaning.OfAccess x.tdr x.vp call-line access r gpa page) (what.Accesses access gpa page) m row (λ h. h) refl
    step-at (Loads access gpa level page) fits row run m =
        what-single o s p (leaf_at (Loads access gpa level page)) run e (meaning.OfWalk x.tdr x.vp access gpa level page) (what.Walks gpa level) m row (λ h. h) (ap (what.Walks gpa) (level-is ∙ sym fits))
    step-at (Leaves out) fits row run m = what-single o s p (leaf_at (Leaves out)) run e (meaning.OfExit x.tdr x.vp out) what.Counts m row (λ h. h) refl

    in-guest : (give : Bool) (run : Standing) (reply : Reply) → (give ≡ true → run.stage ≡ stages.Answered reply) → (m : IsMoved o s p (task_in t c x rs b give) run e)
        → what_is s p (event_of (task_in t c x rs b give).meaning m.move) ≡ event_told (act_told o.codes (Some x) b) e
    in-guest true run reply stage m =
        let free = m.frees reply (stage refl) in
        m.moves (subst HasMoves (sym (are.row p c)) tt) ∙ (ap (event_told what.Acts) free.1 ∙ ap (event_told (act_told o.codes (Some x) b)) (sym free.1))
    in-guest false run reply stage m =
        let st : Step = step_of t.codes b.cached x in
        step-at st (step-fits o call-line t.codes b.cached x) (are.step_row p x.tdr x.vp call-line st) run m
        ∙ ap (λ (z : ℕ → ℕ → List GuestOp). event_told (step_told (step_of z b.cached x)) e) same-codes

    -- which is left by a count step alone
    step-left : (st : Step) → step_of t.codes b.cached x ≡ st → StepFits o call-line x st → ByItsRow o x.tdr x.vp call-line st (leaf_at st).meaning → (run : Standing) (m : IsMoved o s p (leaf_at st) run e) → (v : ℕ) (out : Outcome)
        → event_of (leaf_at st).meaning m.move ≡ flat.Leaves v out → IsExitOf o (record { lines = c ∷ cs; run = None; guest = Some x; replies = rs; beside = b }) e v
    step-left (Operates op) at fits row run m v out is = (let same = sym (ap (λ (k : Meaning). event_of k m.move) (row fits.0 fits.1)) ∙ is in cc)
    step-left (Accesses access r gpa page) at fits row run m v out is = (let same = sym (ap (λ (k : Meaning). event_of k m.move) row) ∙ is in cc)
    step-left (Loads access gpa level page) at fits row run m v out is = (let same = sym (ap (λ (k : Meaning). event_of k m.move) row) ∙ is in cc)
    step-left (Leaves z) at fits row run m v out is =
        let same : flat.Leaves x.vp z ≡ flat.Leaves v out = sym (ap (λ (k : Meaning). event_of k m.move) row) ∙ is in
        record {
          guest = x;
          is_in = refl;
          vp_is = cc;
          outcome = z;
          step = ap (λ (y : ℕ → ℕ → List GuestOp). step_of y b.cached x) (sym same-codes) ∙ at;
          acts = m.single (λ h. subst HasMoves row h);
        }

    left-in : (give : Bool) (run : Standing) (m : IsMoved o s p (task_in t c x rs b give) run e) → (v : ℕ) (out : Outcome) → event_of (task_in t c x rs b give).meaning m.move ≡ flat.Leaves v out
        → IsExitOf o (record { lines = c ∷ cs; run = None; guest = Some x; replies = rs; beside = b }) e v
    left-in true run m v out is = (let same = sym (ap (λ (k : Meaning). event_of k m.move) (are.row p c)) ∙ is in cc)
    left-in false run m v out is = (let st : Step = step_of t.codes b.cached x in step-left st refl (step-fits o call-line t.codes b.cached x) (are.step_row p x.tdr x.vp call-line st) run m v out is)

  line-stage : (x : WordGuest) (line : Standing) (reply : Reply) (give : Bool) (task : Task) → line.stage ≡ stages.Answered reply → give ≡ true → (running task (run_in x line give)).stage ≡ stages.Answered reply
  line-stage x line reply true task a g = a
  line-stage x line reply false task a g = cc

  what-told : (guest : Option WordGuest) (run : Option Standing) → RunStands o t p s.world words.words (s.lps p) (c ∷ cs) run guest rs b
      → (let task = task_at t c guest run rs b in (m : IsMoved o s p task (running task (run_at guest run)) e) → what_is s p (event_of task.meaning m.move) ≡ event_told (act_told o.codes guest b) e)
  what-told None run i m = m.moves (subst HasMoves (sym (are.row p c)) tt)
  what-told (Some x) None i m = absurd i
  what-told (Some x) (Some line) i m =
      let level : guest_level (s.lps p).guest ≡ walk_level x.walk = ap guest_level i.is_in ∙ ap walk_level i.at.walk in
      let give : Bool = gives_epoch_back line.held in
      in-guest x level give (running (task_in t c x rs b give) (run_in x line give)) i.reply (line-stage x line i.reply give (task_in t c x rs b give) i.answered) m

  what-left : (guest : Option WordGuest) (run : Option Standing) → RunStands o t p s.world words.words (s.lps p) (c ∷ cs) run guest rs b
      → (let task = task_at t c guest run rs b in (m : IsMoved o s p task (running task (run_at guest run)) e) → (v : ℕ) (out : Outcome) → event_of task.meaning m.move ≡ flat.Leaves v out → IsExitOf o (record { lines = c ∷ cs; run = run; guest = guest; replies = rs; beside = b }) e v)
  what-left None run i m v out is = (let same = sym (ap (λ (k : Meaning). event_of k m.move) (are.row p c)) ∙ is in cc)
  what-left (Some x) None i m v out is = absurd i
  what-left (Some x) (Some line) i m v out is =
      let level : guest_level (s.lps p).guest ≡ walk_level x.walk = ap guest_level i.is_in ∙ ap walk_level i.at.walk in
      let give : Bool = gives_epoch_back line.held in
      let l = left-in x level give (running (task_in t c x rs b give) (run_in x line give)) m v out is in
      record { guest = l.guest; is_in = l.is_in; vp_is = l.vp_is; outcome = l.outcome; step = l.step; acts = l.acts }

-- the turn

record IsTurned (m : Machine) (run : Standing) (ps : List Piece) (e : RunEvent) : Type 0 where
  stands : Standing
  turn : TurnIn run.stage m run ps stands e
  going : has_ended run.stage run.held ≡ false

entered-turned : (t : LeafTable) (m : Machine) (c : Call) (cs : List Call) (line : Standing) (x : WordGuest) (rs : List Reply) (b : Beside) (e : RunEvent) (ps : List Piece) (after : WordLp) (give : Bool) → EnteredTurn t m c cs line x rs b e ps after give
    → IsTurned m (running (task_in t c x rs b give) (run_in x line give)) ps e
entered-turned t m c cs line x rs b e ps after true lt = record { stands = lt.stands; turn = lt.turn; going = lt.going }
entered-turned t m c cs line x rs b e ps after false lt = record { stands = lt.stands; turn = lt.turn; going = lt.going }

is-turned : (t : LeafTable) (m : Machine) (c : Call) (cs : List Call) (run : Option Standing) (guest : Option WordGuest) (rs : List Reply) (b : Beside) (e : RunEvent) (ps : List Piece) (after : WordLp) → CallTurn t m c cs run guest rs b e ps after
    → IsTurned m (running (task_at t c guest run rs b) (run_at guest run)) ps e
is-turned t m c cs run None rs b e ps after lt = record { stands = lt.stands; turn = lt.turn; going = lt.going }
is-turned t m c cs None (Some x) rs b e ps after lt = absurd lt
is-turned t m c cs (Some line) (Some x) rs b e ps after lt = entered-turned t m c cs line x rs b e ps after (gives_epoch_back line.held) lt

hasher-running : (task : Task) (r : Option Standing) → (running task r).hasher ≡ hasher_of r
hasher-running task None = refl
hasher-running task (Some r) = refl

no-hand : (h : Option Measure) (hand : Hand) → h ≡ None → IsHand h hand → hand ≡ None
no-hand None None e i = refl
no-hand None (Some bytes) e i = absurd i
no-hand (Some x) hand e i = cc

frees-lock : (m : Machine) (run stands : Standing) (xs : List _) (e : RunEvent) (r : Reply) → TurnBy run.stage m run xs stands e → run.stage ≡ stages.Answered r → (name : LockName) × (e ≡ events.Free name)
frees-lock m run stands xs e r t st = (let g = subst (λ (z : Stage). TurnBy z m run xs stands e) st t in (g.0.newest.name, g.0.event))

module _ (follow : LeavesFollow) (law : ProcessorsFollow) (o : Opening) (leaf : ℕ → LeafTable) (p : ℕ) (s : State) (t u : Table) (run : Option Standing) (guest : Option WordGuest) (rs : List Reply) (b : Beside) (c : Call) (cs : List Call) (after : WordLp) (e : RunEvent) (ps : List Piece)
    (are : AreLeaves o leaf) (codes : AreCodes o) (runs : IsRunning o s) (inside : p < s.lp_count) (on : StandsOn o (leaf p) p s t (record { lines = c ∷ cs; run = run; guest = guest; replies = rs; beside = b }))
    (lt : CallTurn (leaf p) o.machine c cs run guest rs b e ps after) (plays : PlaysTo t (taken_in ps) u) where
  abbrev at : WordLp
  at = record { lines = c ∷ cs; run = run; guest = guest; replies = rs; beside = b }

  abbrev task : Task
  task = task_at (leaf p) c guest run rs b

  abbrev now : Standing
  now = running task (run_at guest run)

  abbrev mem : Memory
  mem = on.memory

  d : Does o (leaf p) p s mem task now (λ e stands. then_at (leaf p) c cs guest run rs b e stands)
  d = law.does o leaf p s mem at c cs are codes runs.timely runs.facts inside on.stands refl

  is-hand : IsHand now.hasher mem.hand
  is-hand = subst (λ (z : Option Measure). IsHand z mem.hand) (sym (hasher-running task (run_at guest run))) on.is.hand

  shown : IsShown task s mem t now
  shown = record {
    processor = subst (λ (z : ℕ). z < s.lp_count) (sym d.processor) inside;
    lawful = subst (λ (z : Machine). Lawful z s.world) (sym d.machine) runs.timely.lawful;
    shown = subst (λ (z : Machine). Shows z mem.words mem.slots s) (sym d.machine) on.shows;
    memory = subst (λ (z : Machine). IsMemory z t now.hasher mem) (sym d.machine) (record { words = on.is.words; slots = on.is.slots; hand = is-hand });
    exclusive = runs.exclusive;
    few_sharers = runs.few_sharers;
    nothing_to_tell = runs.nothing_to_tell;
    facts = runs.facts;
    empty_hand = λ z. no-hand now.hasher mem.hand (d.waits z) is-hand;
  }

  moved : IsMoved o s p task now e
  moved =
      let to = is-turned (leaf p) o.machine c cs run guest rs b e ps after lt in
      let stands : Standing = to.stands in
      let result : RunTurn = record { event = e; reply = last_reply stands.stage stands.held } in
      let turn : TurnBy now.stage task.place.machine now (taken_in ps) stands e = subst (λ (z : Machine). TurnBy now.stage z now (taken_in ps) stands e) (sym d.machine) (turn-of-taken o.machine now stands ps e to.turn) in
      let a : LeafAfter o task s d.progress u stands e = follow o task s mem d.kept d.progress t u now stands (taken_in ps) result d.means shown d.does d.at to.going (record { turn = turn; reply = refl }) plays in
      let k = work_of task.meaning in
      let granted : Bool = is_granted s (event_of task.meaning a.move) in
      let as-moved : move_is granted a.move ≡ event_told what.Acts e =
      move-told task.place.machine s.world (work_world k a.move s.world) now stands (k.items s.world) d.progress (taken_in ps) e k (answer_of stands.rest) (answer_of stands.rest).reply granted to.going d.at.held a.move d.at.stage turn a.due a.acts
      (a.at.stage, a.at.held) in
      record {
        move = a.move;
        next = subst (λ (q : ℕ). next_event o s q ≡ Some (event_of task.meaning a.move)) d.processor a.next.next;
        moves = λ h. what-moved s p task.meaning a.move (event_told what.Acts e) h as-moved;
        single = λ none. only-act task.meaning s.world d.progress a.move e (answer_of stands.rest) none (fresh none d.does.single) a.due a.acts;
        frees = λ r st. frees-lock task.place.machine now stands (taken_in ps) e r turn st;
      }
    where
      fresh : (HasMoves task.meaning → ⊥) → HasMoves task.meaning ⊎ (d.progress ≡ nothing_yet) → d.progress ≡ nothing_yet
      fresh none (inl h) = absurd (none h)
      fresh none (inr f) = f

  shown-here : WasTold o s p at e
  shown-here = record {
    event_is = event_of task.meaning moved.move;
    next = moved.next;
    what = what-told o leaf are p s mem c cs rs b e guest run on.stands.run moved;
    leaves = what-left o leaf are p s mem c cs rs b e guest run on.stands.run moved;
  }

  turned : (number : ℕ) (further : List ℕ) → traces_from o s number (p ∷ further) ≡ turn_told o.codes number p at after e ∷ traces_from o (event o s p) (number + 1) further
  turned number further =
      let ev : Event = shown-here.event_is in
      let s' : State = event o s p in
      let before : (s.lps p).replies ≡ rs = on.stands.replies in
      let behind : (s'.lps p).replies ≡ after.replies = (law.follow o leaf p s t u at after e ps are codes runs inside on lt plays).stands.stands.replies in
      let is : what_is s p ev ≡ told o.codes at e = shown-here.what in
      let head : traced s s' number p ev ≡ turn_told o.codes number p at after e = λ i. record {
        number = number;
        lp = p;
        line = length (before i) + 1;
        what = is i;
        reply = reply_behind (length (before i)) (behind i);
      } in
      ap (λ (z : Option Event). traced_first s s' number p z (λ n. traces_from o s' n further)) shown-here.next ∙ ap (λ (z : Traced). z ∷ traces_from o s' (number + 1) further) head

turned-at : LeavesFollow → ProcessorsFollow → (o : Opening) (leaf : ℕ → LeafTable) (p : ℕ) (s : State) (t u : Table) (lines : List Call) (run : Option Standing) (guest : Option WordGuest) (rs : List Reply) (b : Beside) (after : WordLp) (e : RunEvent) (ps : List Piece)
    → AreLeaves o leaf → AreCodes o → IsRunning o s → p < s.lp_count → (let at : WordLp = record { lines = lines; run = run; guest = guest; replies = rs; beside = b } in StandsOn o (leaf p) p s t at
    → LinesTurn (leaf p) o.machine lines run guest rs b e ps after → PlaysTo t (taken_in ps) u
    → (number : ℕ) (further : List ℕ) → traces_from o s number (p ∷ further) ≡ turn_told o.codes number p at after e ∷ traces_from o (event o s p) (number + 1) further)
turned-at follow law o leaf p s t u [] run guest rs b after e ps are codes runs inside on lt plays number further = absurd lt
turned-at follow law o leaf p s t u (c ∷ cs) run guest rs b after e ps are codes runs inside on lt plays number further =
    turned follow law o leaf p s t u run guest rs b c cs after e ps are codes runs inside on lt plays number further

told-at : LeavesFollow → ProcessorsFollow → (o : Opening) (leaf : ℕ → LeafTable) (p : ℕ) (s : State) (t u : Table) (lines : List Call) (run : Option Standing) (guest : Option WordGuest) (rs : List Reply) (b : Beside) (after : WordLp) (e : RunEvent) (ps : List Piece)
    → AreLeaves o leaf → AreCodes o → IsRunning o s → p < s.lp_count → (let at : WordLp = record { lines = lines; run = run; guest = guest; replies = rs; beside = b } in StandsOn o (leaf p) p s t at
    → LinesTurn (leaf p) o.machine lines run guest rs b e ps after → PlaysTo t (taken_in ps) u → WasTold o s p at e)
told-at follow law o leaf p s t u [] run guest rs b after e ps are codes runs inside on lt plays = absurd lt
told-at follow law o leaf p s t u (c ∷ cs) run guest rs b after e ps are codes runs inside on lt plays = shown-here follow law o leaf p s t u run guest rs b c cs after e ps are codes runs inside on lt plays

pub turns-are-told : LeavesFollow → ProcessorsFollow → MergesAreRuns → TurnsAreTold
turns-are-told follow law merges = record {
  one = λ o leaf p s t u at after e ps are codes runs inside on lt plays. told-at follow law o leaf p s t u at.lines at.run at.guest at.replies at.beside after e ps are codes runs inside on lt plays;
  told = λ o leaf is now u u' p after e ps few are codes merge inside lt plays number further.
      let s : State = play o (order is) (start o None) in
      let runs : IsRunning o s = law.runs o (order is) few in
      let at : WordLp = now p in
      turned-at follow law o leaf p s u u' at.lines at.run at.guest at.replies at.beside after e ps are codes runs (subst (λ (n : ℕ). p < n) (sym runs.timely.count) inside) (merges.stand o leaf is now u few are codes merge p inside) lt plays
      number further;
  ended = λ o leaf is now u p few are codes merge inside none number further.
      let s : State = play o (order is) (start o None) in
      let left : lines_left o p (s.lps p) ≡ [] = (merges.turns o leaf is now u few are codes merge).1.lines p inside ∙ none in
      let next : next_event o s p ≡ None = ap (λ (z : List Call). event_for o s.world p (s.lps p) z) left in
      traces-idle o s number p further next;
}
  where
    traces-idle : (o : Opening) (s : State) (number p : ℕ) (further : List ℕ) → next_event o s p ≡ None → traces_from o s number (p ∷ further) ≡ traces_from o s number further
    traces-idle o s number p further e = ap (λ (z : Option Event). traced_first s (after_event p s z) number p z (λ n. traces_from o (after_event p s z) n further)) e
