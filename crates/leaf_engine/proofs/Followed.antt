-- Each turn of a processor is its next event.
use Rattle.std.proofs.Common.{◌≡◌, ℕ, zero, suc, ◌<◌, Bool, true, false, List, [], ◌∷◌, Option, Some, None, refl, ap, sym, ◌∙◌, subst}
use Rattle.td_words.specs.declared.machines.Machine.{Machine}
use Rattle.td_words.specs.declared.names.Access.{Access}
use Rattle.td_words.specs.declared.calls.Call.{Call}
use Rattle.td_words.specs.declared.refusals.Status.TheVariants.{OperandBusy}
use Rattle.td_words.specs.declared.replies.Outcome.TheVariants.{Stop, Max, EptViolation, Busy, Vmcall}
use Rattle.td_words.specs.declared.replies.Value.TheVariants as value
use Rattle.td_words.specs.declared.replies.Reply.{Reply}
use Rattle.td_words.specs.declared.replies.Reply.TheVariants.{Done, Refused, Exited}
use Rattle.td_words.specs.Place.{WordPlace}
use Rattle.mrtd_measure.specs.declared.measures.Measure.{Measure}
use Rattle.flat_core.specs.World.{World}
use Rattle.flat_core.specs.Processor.{Entering, Lp}
use Rattle.flat_core.specs.Opening.{Opening}
use Rattle.flat_core.specs.Lawful.{Lawful}
use Rattle.flat_core.specs.Event.{State, start, next_event, event}
use Rattle.flat_core.specs.Laws.{LocksExclude, NoWordsToTell}
use Rattle.flat_core.proofs.Ends.{always_timely}
use Rattle.lock_words.specs.LockWords.{RunsFollow}
use Rattle.word_rules.specs.Cells.{Shows, StartIsShown}
use Rattle.step_core.specs.Items.{Table, PlaysTo}
use Rattle.leaf_engine.specs.declared.events.Event.{Event as RunEvent}
use Rattle.leaf_engine.specs.declared.events.Event.TheVariants as events
use Rattle.leaf_engine.specs.declared.events.RunTurn.{RunTurn}
use Rattle.leaf_engine.specs.Changes.{Memory, Hand}
use Rattle.leaf_engine.specs.Trees.{Tree, added, answer_of}
use Rattle.leaf_engine.specs.Besides.{Beside, beside_after, bundles_made}
use Rattle.leaf_engine.specs.Decides.{IsHand}
use Rattle.leaf_engine.specs.Means.{Task}
use Rattle.leaf_engine.specs.Tables.{IsMemory}
use Rattle.leaf_engine.specs.Turns.{Standing, TurnBy, has_ended, last_reply}
use Rattle.leaf_engine.specs.Guests.{WordGuest, Step, Operates, Accesses, Loads, Leaves, guest_after, entered_at, or_else, passed_on, operated, walked, is_right, loaded, step_of, gives_epoch_back}
use Rattle.leaf_engine.specs.OwnLists.{Piece, taken_in, TurnIn, LeafTable, WordLp, running, after_turn, after_step, CallTurn, EnteredTurn, LinesTurn}
use Rattle.leaf_engine.specs.Merges.{AreLeaves, AreCodes}
use Rattle.leaf_engine.specs.Calls.{IsShown, no_memory}
use Rattle.leaf_engine.specs.Doing.{event_of, LeafAfter, LeavesFollow}
use Rattle.leaf_engine.specs.Standing.{RunStands}
use Rattle.leaf_engine.specs.Following.{task_in, task_at, run_in, run_at, then_in, then_at, Does, hasher_of, hasher_at, StandsOn, IsRunning, IsFollowed, ProcessorsFollow}
use Rattle.leaf_engine.specs.Facts.{FactsStand}
use Rattle.leaf_engine.proofs.OnTheWay.{none-to-tell}
use Rattle.leaf_engine.proofs.Pieces.{turn-of-taken}
use Rattle.leaf_engine.proofs.Making.{own-bundles}
use Rattle.leaf_engine.proofs.Doers.{processors-do}

-- a turn of a processor is one of the leaf that it is at

record TurnsTo (m : Machine) (task : Task) (run : Standing) (e : RunEvent) (ps : List Piece) (after : RunEvent → Standing → WordLp) (at : WordLp) : Type 0 where
  stands : Standing
  turn : TurnIn run.stage m run ps stands e
  going : has_ended run.stage run.held ≡ false
  after_is : at ≡ after e stands

entered-to : (t : LeafTable) (m : Machine) (c : Call) (cs : List Call) (line : Standing) (x : WordGuest) (rs : List Reply) (b : Beside) (e : RunEvent) (ps : List Piece) (at : WordLp) (give : Bool) → EnteredTurn t m c cs line x rs b e ps at give
    → let task = task_in t c x rs b give in TurnsTo m task (running task (run_in x line give)) e ps (λ e stands. then_in t c cs x line rs b e stands give) at
entered-to t m c cs line x rs b e ps at true lt = record { stands = lt.stands; turn = lt.turn; going = lt.going; after_is = lt.after_is }
entered-to t m c cs line x rs b e ps at false lt = record { stands = lt.stands; turn = lt.turn; going = lt.going; after_is = lt.after_is }

turns-to : (t : LeafTable) (m : Machine) (c : Call) (cs : List Call) (run : Option Standing) (guest : Option WordGuest) (rs : List Reply) (b : Beside) (e : RunEvent) (ps : List Piece) (at : WordLp) → CallTurn t m c cs run guest rs b e ps at
    → let task = task_at t c guest run rs b in TurnsTo m task (running task (run_at guest run)) e ps (λ e stands. then_at t c cs guest run rs b e stands) at
turns-to t m c cs run None rs b e ps at lt = record { stands = lt.stands; turn = lt.turn; going = lt.going; after_is = lt.after_is }
turns-to t m c cs None (Some x) rs b e ps at lt = absurd lt
turns-to t m c cs (Some line) (Some x) rs b e ps at lt = entered-to t m c cs line x rs b e ps at (gives_epoch_back line.held) lt

-- the hasher in hand then

abbrev HasHand : Option Measure → Type 0
HasHand h = (hand : Hand) × IsHand h hand

abbrev HasNoRun : Option WordGuest → Type 0
HasNoRun None = Unit {0}
HasNoRun (Some x) = x.run ≡ None

no-run-entered : (en : Option Entering) (r : Reply) (g : Option WordGuest) → HasNoRun g → HasNoRun (or_else (entered_at en r) g)
no-run-entered None r g h = h
no-run-entered (Some en) (Done (value.Entered stale index position root)) g h = refl
no-run-entered (Some en) (Done _) g h = h
no-run-entered (Some en) (Refused s) g h = h
no-run-entered (Some en) (Exited out) g h = h

no-run-after : (e : RunEvent) (t : Tree) (g : Option WordGuest) → HasNoRun g → HasNoRun (guest_after e t g)
no-run-after events.Act t g h = no-run-entered (answer_of t).enters (answer_of t).reply g h
no-run-after (events.Try name mode granted) t g h = h
no-run-after (events.Undo name) t g h = h
no-run-after (events.Free name) t g h = h
no-run-after (events.Walk level) t g h = h
no-run-after (events.Word at) t g h = h
no-run-after (events.Count parity) t g h = h

in-line : (stands : Standing) (x : WordGuest) → x.run ≡ None → HasHand stands.hasher → (give : Bool) → HasHand (hasher_of (run_in x stands give))
in-line stands x none h true = h
in-line stands x none h false = subst (λ (z : Option Standing). HasHand (hasher_of z)) (sym none) (None, tt)

line-hand : (stands : Standing) → HasHand stands.hasher → (g : Option WordGuest) → HasNoRun g → HasHand (hasher_of (run_at g (Some stands)))
line-hand stands h None n = h
line-hand stands h (Some x) n = in-line stands x n h (gives_epoch_back stands.held)

turn-hand : (c : Call) (cs : List Call) (g : Option WordGuest) (rs : List Reply) (b : Beside) (stands : Standing) (r : Option Reply) → HasNoRun g → HasHand stands.hasher → HasHand (hasher_at (after_turn c cs g rs b stands r))
turn-hand c cs g rs b stands None n h = line-hand stands h g n
turn-hand c cs g rs b stands (Some r) n h = (None, tt)

-- a step that is over leaves no run

run-operated : (r : Reply) (x : WordGuest) → (operated r x).run ≡ None
run-operated (Done v) x = refl
run-operated (Exited (Vmcall y)) x = refl
run-operated (Exited Stop) x = refl
run-operated (Exited Max) x = refl
run-operated (Exited (EptViolation gpa access)) x = refl
run-operated (Exited (Busy name)) x = refl
run-operated (Refused (OperandBusy name)) x = refl
run-operated (Refused _) x = refl

run-walked : (access : Access) (gpa level rights : ℕ) (b : Bool) (x : WordGuest) → (walked access gpa level rights b x).run ≡ None
run-walked access gpa zero rights true x = refl
run-walked access gpa (suc level) rights true x = refl
run-walked access gpa zero rights false x = refl
run-walked access gpa (suc level) rights false x = refl

run-loaded : (access : Access) (gpa level : ℕ) (r : Reply) (x : WordGuest) → (loaded access gpa level r x).run ≡ None
run-loaded access gpa level (Done (value.Number rights)) x = run-walked access gpa level rights (is_right access level rights) x
run-loaded access gpa level (Done _) x = refl
run-loaded access gpa level (Refused s) x = refl
run-loaded access gpa level (Exited out) x = refl

module _ (line : Standing) (freed : gives_epoch_back line.held ≡ false) (kept : HasHand line.hasher) where
  in-step : (y : WordGuest) → HasHand (hasher_of y.run) → HasHand (hasher_of (run_at (Some y) (Some line)))
  in-step y h = subst (λ (z : Bool). HasHand (hasher_of (run_in y line z))) (sym freed) h

  no-run : (y : WordGuest) → y.run ≡ None → HasHand (hasher_of (run_at (Some y) (Some line)))
  no-run y e = in-step y (subst (λ (z : Option Standing). HasHand (hasher_of z)) (sym e) (None, tt))

  step-hand : (c : Call) (cs : List Call) (x : WordGuest) (rs : List Reply) (b : Beside) (st : Step) (stands : Standing) (r : Option Reply) → HasHand stands.hasher
      → HasHand (hasher_at (after_step c cs line x rs b st stands r))
  step-hand c cs x rs b st stands None h = in-step (record x { run = Some stands }) h
  step-hand c cs x rs b (Operates op) stands (Some r) h = no-run (operated r x) (run-operated r x)
  step-hand c cs x rs b (Accesses access q gpa page) stands (Some r) h = no-run (passed_on x) refl
  step-hand c cs x rs b (Loads access gpa level page) stands (Some r) h = no-run (loaded access gpa level r x) (run-loaded access gpa level r x)
  step-hand c cs x rs b (Leaves out) stands (Some r) h = kept

module _ (o : Opening) (t : LeafTable) (p : ℕ) (w : World) (words : WordPlace → ℕ) (lp : Lp) (c : Call) (cs : List Call) (rs : List Reply) (b : Beside) (e : RunEvent) (stands : Standing) (h : HasHand stands.hasher) where
  in-hand : (x : WordGuest) (line : Standing) → (gives_epoch_back line.held ≡ true → x.run ≡ None) → HasHand line.hasher → (give : Bool) → gives_epoch_back line.held ≡ give → HasHand (hasher_of (run_in x line give))
      → HasHand (hasher_at (then_in t c cs x line rs b e stands give))
  in-hand x line fresh kept true gives before =
      turn-hand c cs (guest_after e stands.rest (Some x)) rs (beside_after e stands.rest b) stands (last_reply stands.stage stands.held) (no-run-after e stands.rest (Some x) (fresh gives)) h
  in-hand x line fresh kept false gives before =
      step-hand line gives kept c cs x rs (beside_after e stands.rest b) (step_of t.codes b.cached x) stands (last_reply stands.stage stands.held) h

  hand-at : (guest : Option WordGuest) (run : Option Standing) → RunStands o t p w words lp (c ∷ cs) run guest rs b → HasHand (hasher_of (run_at guest run)) → HasHand (hasher_at (then_at t c cs guest run rs b e stands))
  hand-at None run i before =
      turn-hand c cs (guest_after e stands.rest None) rs (beside_after e stands.rest b) stands (last_reply stands.stage stands.held) (no-run-after e stands.rest None tt) h
  hand-at (Some x) None i before = absurd i
  hand-at (Some x) (Some line) i before = in-hand x line i.fresh (i.hand, i.in_hand) (gives_epoch_back line.held) refl before

-- the turn

hasher-running : (task : Task) (r : Option Standing) → (running task r).hasher ≡ hasher_of r
hasher-running task None = refl
hasher-running task (Some r) = refl

no-hand : (h : Option Measure) (hand : Hand) → h ≡ None → IsHand h hand → hand ≡ None
no-hand None None e i = refl
no-hand None (Some bytes) e i = absurd i
no-hand (Some x) hand e i = cc

module _ (follow : LeavesFollow) (o : Opening) (leaf : ℕ → LeafTable) (p : ℕ) (s : State) (t u : Table) (run : Option Standing) (guest : Option WordGuest) (rs : List Reply) (b : Beside) (c : Call) (cs : List Call) (after : WordLp) (e : RunEvent) (ps : List Piece)
    (are : AreLeaves o leaf) (codes : AreCodes o) (runs : IsRunning o s) (inside : p < s.lp_count) (on : StandsOn o (leaf p) p s t (record { lines = c ∷ cs; run = run; guest = guest; replies = rs; beside = b })) where
  abbrev at : WordLp
  at = record { lines = c ∷ cs; run = run; guest = guest; replies = rs; beside = b }

  abbrev task : Task
  task = task_at (leaf p) c guest run rs b

  abbrev now : Standing
  now = running task (run_at guest run)

  abbrev mem : Memory
  mem = on.memory

  d : Does o (leaf p) p s mem task now (λ e stands. then_at (leaf p) c cs guest run rs b e stands)
  d = processors-do o leaf p s mem at c cs are codes runs.timely runs.facts inside on.stands refl

  turn-bundles : (g : Option WordGuest) (b' : Beside) (stands : Standing) (r : Option Reply) → (after_turn c cs g rs b' stands r).beside.bundles ≡ b'.bundles
  turn-bundles g b' stands None = refl
  turn-bundles g b' stands (Some r) = refl

  step-bundles : (line : Standing) (x : WordGuest) (b' : Beside) (st : Step) (stands : Standing) (r : Option Reply) → (after_step c cs line x rs b' st stands r).beside.bundles ≡ b'.bundles
  step-bundles line x b' st stands None = refl
  step-bundles line x b' st stands (Some r) = refl

  in-bundles : (x : WordGuest) (line stands : Standing) (give : Bool) → (then_in (leaf p) c cs x line rs b e stands give).beside.bundles ≡ added b.bundles (bundles_made e stands.rest)
  in-bundles x line stands true = turn-bundles (guest_after e stands.rest (Some x)) (beside_after e stands.rest b) stands (last_reply stands.stage stands.held) ∙ own-bundles e stands.rest b
  in-bundles x line stands false = step-bundles line x (beside_after e stands.rest b) (step_of (leaf p).codes b.cached x) stands (last_reply stands.stage stands.held) ∙ own-bundles e stands.rest b

  then-bundles : (g : Option WordGuest) (r : Option Standing) → RunStands o (leaf p) p s.world mem.words (s.lps p) (c ∷ cs) r g rs b → (stands : Standing) → (then_at (leaf p) c cs g r rs b e stands).beside.bundles ≡ added b.bundles (bundles_made e stands.rest)
  then-bundles None r i stands = turn-bundles (guest_after e stands.rest None) (beside_after e stands.rest b) stands (last_reply stands.stage stands.held) ∙ own-bundles e stands.rest b
  then-bundles (Some x) None i stands = absurd i
  then-bundles (Some x) (Some line) i stands = in-bundles x line stands (gives_epoch_back line.held)

  is-hand : IsHand now.hasher mem.hand
  is-hand = subst (λ (z : Option Measure). IsHand z mem.hand) (sym (hasher-running task (run_at guest run))) on.is.hand

  shown : IsShown task s mem t now
  shown = record {
    processor = subst (λ (z : ℕ). z < s.lp_count) (sym d.processor) inside;
    lawful = subst (λ (z : Machine). Lawful z s.world) (sym d.machine) runs.timely.lawful;
    shown = subst (λ (z : Machine). Shows z mem.words mem.slots s) (sym d.machine) on.shows;
    memory = subst (λ (z : Machine). IsMemory z t now.hasher mem) (sym d.machine) (record { words = on.is.words; slots = on.is.slots; hand = is-hand });
    exclusive = runs.exclusive;
    few_sharers = runs.few_sharers;
    nothing_to_tell = runs.nothing_to_tell;
    facts = runs.facts;
    empty_hand = λ z. no-hand now.hasher mem.hand (d.waits z) is-hand;
  }

  follows-to : TurnsTo o.machine task now e ps (λ e stands. then_at (leaf p) c cs guest run rs b e stands) after → PlaysTo t (taken_in ps) u → IsFollowed o (leaf p) p s u at after
  follows-to to plays =
      let stands : Standing = to.stands in
      let result : RunTurn = record { event = e; reply = last_reply stands.stage stands.held } in
      let turn : TurnBy now.stage task.place.machine now (taken_in ps) stands e = subst (λ (z : Machine). TurnBy now.stage z now (taken_in ps) stands e) (sym d.machine) (turn-of-taken o.machine now stands ps e to.turn) in
      let a : LeafAfter o task s d.progress u stands e = follow o task s mem d.kept d.progress t u now stands (taken_in ps) result d.means shown d.does d.at to.going (record { turn = turn; reply = refl }) plays in
      let memory : IsMemory o.machine u stands.hasher a.mem = subst (λ (z : Machine). IsMemory z u stands.hasher a.mem) d.machine a.memory in
      let hand = hand-at o (leaf p) p s.world mem.words (s.lps p) c cs rs b e stands (a.mem.hand, memory.hand) guest run on.stands.run (mem.hand, on.is.hand) in
      let after-on : StandsOn o (leaf p) p (event o s p) u (then_at (leaf p) c cs guest run rs b e stands) = record {
        memory = record (a.mem) { hand = hand.0 };
        is = record { words = memory.words; slots = memory.slots; hand = hand.1 };
        shows = subst (λ (q : ℕ). Shows o.machine a.mem.words a.mem.slots (event o s q)) d.processor (subst (λ (z : Machine). Shows z a.mem.words a.mem.slots (event o s task.place.lp)) d.machine a.shown);
        stands = d.then_ u e stands a;
      } in
      record {
        event_is = event_of task.meaning a.move;
        next = subst (λ (q : ℕ). next_event o s q ≡ Some (event_of task.meaning a.move)) d.processor a.next.next;
        stands = subst (λ (z : WordLp). StandsOn o (leaf p) p (event o s p) u z) (sym to.after_is) after-on;
        more = bundles_made e stands.rest;
        bundles = d.makes u e stands a;
        own_bundles = ap (λ (z : WordLp). z.beside.bundles) to.after_is ∙ then-bundles guest run on.stands.run stands;
      }

pub follows : LeavesFollow → (o : Opening) (leaf : ℕ → LeafTable) (p : ℕ) (s : State) (t u : Table) (lines : List Call) (run : Option Standing) (guest : Option WordGuest) (rs : List Reply) (b : Beside) (after : WordLp) (e : RunEvent) (ps : List Piece)
    → AreLeaves o leaf → AreCodes o → IsRunning o s → p < s.lp_count → StandsOn o (leaf p) p s t (record { lines = lines; run = run; guest = guest; replies = rs; beside = b }) → LinesTurn (leaf p) o.machine lines run guest rs b e ps after → PlaysTo t (taken_in ps) u
    → IsFollowed o (leaf p) p s u (record { lines = lines; run = run; guest = guest; replies = rs; beside = b }) after
follows follow o leaf p s t u [] run guest rs b after e ps are codes runs inside on lt plays = absurd lt
follows follow o leaf p s t u (c ∷ cs) run guest rs b after e ps are codes runs inside on lt plays =
    follows-to follow o leaf p s t u run guest rs b c cs after e ps are codes runs inside on (turns-to (leaf p) o.machine c cs run guest rs b e ps after lt) plays

pub record Laws : Type 0 where
  pub leaves : LeavesFollow
  pub shown : StartIsShown
  pub exclude : LocksExclude
  pub tell : NoWordsToTell
  pub few : RunsFollow
  pub facts : FactsStand

pub processors-follow : Laws → ProcessorsFollow
processors-follow ls = record {
  does = processors-do;
  starts = λ o t p. record {
    memory = no_memory;
    is = record { words = λ q a. refl; slots = λ h a. tt; hand = tt };
    shows = ls.shown o None;
    stands = record { lines = refl; replies = refl; beside = refl; run = record { call = refl; guest = refl } };
  };
  runs = λ o schedule eight. record {
    timely = always_timely o None schedule;
    exclusive = λ l. ls.exclude o None schedule l;
    few_sharers = λ l. ls.few.few o None schedule l eight;
    nothing_to_tell = none-to-tell ls.tell o schedule (start o None) refl;
    facts = ls.facts o schedule;
  };
  follow = λ o leaf p s t u at after e ps are codes runs inside on lt plays. follows ls.leaves o leaf p s t u at.lines at.run at.guest at.replies at.beside after e ps are codes runs inside on lt plays;
}
