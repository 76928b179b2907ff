-- Where each processor is beside the flat machine, while a merge is gone through.
use Rattle.mrtd_measure.specs.declared.measures.Measure.{Measure}
use Rattle.std.proofs.Common.{◌≡◌, ◌⊎◌, ℕ, ◌+◌, ◌-◌, ◌^◌, ◌<◌, true, false, List, [], ◌∷◌, ◌++◌, map, length, Option, Some, None}
use Rattle.td_words.specs.declared.machines.Machine.{Machine}
use Rattle.td_words.specs.declared.calls.Call.{Call}
use Rattle.td_words.specs.declared.replies.Reply.{Reply}
use Rattle.td_words.specs.Place.{WordPlace, IsIn, address}
use Rattle.td_words.specs.Laws.{PlacesInjective}
use Rattle.flat_core.specs.World.{World, Made}
use Rattle.flat_core.specs.Processor.{LockId, Held, Trying, Progress, nothing_yet, Guest, Lp}
use Rattle.flat_core.specs.Locks.{sharers, refusals}
use Rattle.flat_core.specs.Opening.{Opening}
use Rattle.flat_core.specs.Row.{Move, Refuses, Succeeds}
use Rattle.flat_core.specs.Table.{row_of}
use Rattle.flat_core.specs.Lawful.{Lawful}
use Rattle.flat_core.specs.Event.{Event, next_event, State, lines_left, event}
use Rattle.flat_core.specs.Run.{bundles_in}
use Rattle.flat_core.specs.Laws.{EveryWorldIsLawful, LocksExclude, OthersStay, NoWordsToTell, IsBetween}
use Rattle.flat_core.specs.Entered.{EventsSpare}
use Rattle.word_rules.specs.Guards.{Grip}
use Rattle.word_rules.specs.Permissions.{WordsNeverConflict, ActsNeverConflict, RespectsCompose}
use Rattle.word_rules.specs.Views.{ViewsAreKept}
use Rattle.word_rules.specs.Cells.{Shows, StartIsShown}
use Rattle.lock_words.specs.Grips.{IsExclusive, GripsAreApart, HoldTdrs, UndoTdr}
use Rattle.lock_words.specs.LockWords.{LockWordsFollow, LockStepsShown, RunsFollow, TdLocksStay, IsNext}
use Rattle.leaf_engine.specs.Facts.{Facts, FactsStand}
use Rattle.act_rules.specs.Stores.{OthersStoresKeepReads}
use Rattle.step_core.specs.Items.{Table}
use Rattle.step_core.specs.declared.items.Taken.{Taken}
use Rattle.step_core.specs.Laws.{PagesChangeAlone}
use Rattle.leaf_engine.specs.Changes.{Memory}
use Rattle.leaf_engine.specs.Trees.{Answer, Tree, End}
use Rattle.leaf_engine.specs.Besides.{Beside, beside_of, beside_after}
use Rattle.leaf_engine.specs.Changes.{Hand, Change}
use Rattle.leaf_engine.specs.Means.{Task, Meaning, OfCall, Instant, work_of, MeansRow, IsHkid}
use Rattle.leaf_engine.specs.Decides.{IsHand}
use Rattle.leaf_engine.specs.declared.events.Event.{Event as RunEvent}
use Rattle.leaf_engine.specs.declared.events.Event.TheVariants as events
use Rattle.leaf_engine.specs.declared.events.Stage.TheVariants as stages
use Rattle.leaf_engine.specs.Items.{AreChanged}
use Rattle.leaf_engine.specs.Turns.{Standing, standing, has_ended, last_reply}
use Rattle.leaf_engine.specs.Doing.{event_of, IsDoing, LeafAt, LeafAfter}
use Rattle.leaf_engine.specs.OwnLists.{Piece, Unmarked, joined, marked_behind, TurnIn, TurnsInPieces, LeafTable, WordLp, after_turn, after_step, step_leaf, LpTurns, OwnTurns}
use Rattle.leaf_engine.specs.Merges.{ByItsRow, IsStepOf, AreCodes}
use Rattle.flat_core.specs.AccessLaw.{IsGuarded}
use Rattle.leaf_engine.specs.Calls.{AreLocks}
use Rattle.leaf_engine.specs.Standing.{out_progress, HasNoHasher, IsGuestAt}
use Rattle.leaf_engine.specs.Doing.{HasMoves}
use Rattle.leaf_engine.specs.Guests.{WordGuest, guest_after, Step, step_of, gives_epoch_back}
use Rattle.leaf_engine.specs.Trees.{added}
use Rattle.merge_laws.specs.Laws.{AreBundlesOf}
use Rattle.merge_laws.proofs.Stores.{Due, due, last_at, or_else, laid}
use Rattle.merge_laws.proofs.Swaps.{SwapDue, slots_laid, SwapsMay}
use Rattle.merge_laws.proofs.Owing.{Owed, stores_in, swaps_in, AreOwed}
use Rattle.merge_laws.proofs.Filling.{Todo, Puts, Takes, all_todos, AreTodos, dues_of}
use Rattle.merge_laws.proofs.Keeping.{Keeps}
use Rattle.merge_laws.proofs.Holding.{bare, locks_at, lock_grip_of}

-- the laws that it rests on
pub record Laws : Type 0 where
  pub lawful : EveryWorldIsLawful
  pub exclude : LocksExclude
  pub tell : NoWordsToTell
  pub others : OthersStay
  pub follow : LockWordsFollow
  pub runs : RunsFollow
  pub steps : LockStepsShown
  pub facts : FactsStand
  pub places : PlacesInjective
  pub pages : PagesChangeAlone
  pub words : WordsNeverConflict
  pub acts : ActsNeverConflict
  pub compose : RespectsCompose
  pub apart : GripsAreApart
  pub stay : TdLocksStay
  pub keep : OthersStoresKeepReads
  pub views : ViewsAreKept
  pub start : StartIsShown
  pub one : TurnsInPieces
  pub spare : EventsSpare

-- leaves by their trees: of each call, and of each step of a guest, with what it means
pub record Trees : Type 0 where
  pub call : ℕ → Call → Tree
  pub step : (lp tdr vp line : ℕ) → Step → Tree
  pub means : (lp tdr vp line : ℕ) → Step → Meaning

abbrev pub leaf_for : Opening → Trees → ℕ → Call → Task
leaf_for o trees p c = record { place = record { machine = o.machine; lp = p }; tree = trees.call p c; meaning = OfCall (row_of o p c) }

abbrev pub step_for : Opening → Trees → (lp tdr vp line : ℕ) → Step → Task
step_for o trees p t v line step = record { place = record { machine = o.machine; lp = p }; tree = trees.step p t v line step; meaning = trees.means p t v line step }

abbrev pub table_for : Opening → Trees → ℕ → LeafTable
table_for o trees p = record { call = leaf_for o trees p; step = step_for o trees p; codes = o.codes }

pub record AreTrees (o : Opening) (trees : Trees) : Type 0 where
  pub means : (p : ℕ) (c : Call) → MeansRow (leaf_for o trees p c)
  pub steps : (p t v line : ℕ) (step : Step) → ByItsRow o t v line step (trees.means p t v line step)
  pub steps_mean : (p t v line : ℕ) (step : Step) → IsStepOf step → MeansRow (step_for o trees p t v line step)
  pub codes : AreCodes o

-- its own list, turn by turn
abbrev pub TurnsTo : Opening → Trees → ℕ → WordLp → List (List Piece) → WordLp → Type 0
TurnsTo o trees p at tps end_ = OwnTurns (table_for o trees p) o.machine at tps end_

-- what is known of a state, as of each that a run reaches
pub record Known (o : Opening) (s : State) : Type 0 where
  pub count : s.lp_count ≡ length o.calls
  pub lawful : Lawful o.machine s.world
  pub exclusive : IsExclusive s
  pub few : (l : LockId) → sharers s.lps s.lp_count l + refusals s.lps s.lp_count l + 1 < 2 ^ 63
  pub nothing_to_tell : s.world.outgoing.to_tell ≡ None
  pub facts : Facts s
  pub guarded : IsGuarded o s
  pub next : (p : ℕ) (e : Event) → next_event o s p ≡ Some e → IsNext o s p e
  pub later : (p : ℕ) → Facts (event o s p)

-- the hasher that a run has in hand: none on its way
pub record HandOf (run : Standing) : Type 0 where
  pub hand : Hand
  pub is : IsHand run.hasher hand
  pub trying : HasNoHasher run

-- What a processor does: a leaf, by its tree and what it means; the locks that the processor holds besides, how far the leaf
-- is, and the bundles made before; and where the processor is over words while the leaf is on its way, and after a turn that
-- makes an event.
pub record Does : Type 0 where
  pub tree : Tree
  pub meaning : Meaning
  pub kept : List Held
  pub far : Progress Reply
  pub bundles : List Made
  pub within : Standing → WordLp
  pub after : RunEvent → Standing → WordLp

abbrev pub task_for : Opening → ℕ → Does → Task
task_for o p d = record { place = record { machine = o.machine; lp = p }; tree = d.tree; meaning = d.meaning }

abbrev pub moment : State → Memory → ℕ → Does → Instant
moment s mem p d = record { state = s; memory = mem; me = p; kept = d.kept }

-- what it acts and fills under
abbrev pub act_grip : State → Memory → ℕ → Does → Grip
act_grip s mem p d = (work_of d.meaning).grasp (moment s mem p d) d.far.held

-- a run that has begun
pub record RunsAt (task : Task) (far : Progress Reply) (w : World) (words : WordPlace → ℕ) (run : Standing) : Type 0 where
  pub at : LeafAt task w words run far
  pub trying : HasNoHasher run

-- a call on its way
pub record OnCall (o : Opening) (trees : Trees) (p : ℕ) (c : Call) (w : World) (words : WordPlace → ℕ) (lp : Lp) (run : Standing) : Type 0 where
  pub guest : lp.guest ≡ None
  pub runs : RunsAt (leaf_for o trees p c) lp.call w words run

-- in a guest, whose VP.ENTER has acted and holds what the flat machine's does
pub record InGuestAt (o : Opening) (trees : Trees) (p : ℕ) (w : World) (words : WordPlace → ℕ) (lp : Lp) (line : Standing) (x : WordGuest) (rs : List Reply) (b : Beside) : Type 0 where
  pub guest : Guest
  pub is_in : lp.guest ≡ Some guest
  pub at : IsGuestAt (step_leaf (table_for o trees p) x rs b) w words guest x
  pub reply : Reply
  pub answered : line.stage ≡ stages.Answered reply
  pub held : AreLocks o.machine w line.held lp.call.held
  pub waits : gives_epoch_back line.held ≡ true → x.run ≡ None

abbrev pub RunAt : Opening → Trees → ℕ → World → (WordPlace → ℕ) → Lp → List Call → Option Standing → Option WordGuest → List Reply → Beside → Type 0
RunAt o trees p w words lp cs None None rs b = IsBetween lp
RunAt o trees p w words lp (c ∷ cs) (Some r) None rs b = OnCall o trees p c w words lp r
RunAt o trees p w words lp (c ∷ cs) (Some r) (Some x) rs b = InGuestAt o trees p w words lp r x rs b
RunAt o trees p w words lp _ _ _ rs b = ⊥

pub record StandsAt (o : Opening) (trees : Trees) (p : ℕ) (w : World) (words : WordPlace → ℕ) (lp : Lp) (at : WordLp) : Type 0 where
  pub lines : lines_left o p lp ≡ at.lines
  pub replies : lp.replies ≡ at.replies
  pub beside : beside_of lp at.beside.bundles ≡ at.beside
  pub run : RunAt o trees p w words lp at.lines at.run at.guest at.replies at.beside

-- a call, as what its processor does, so far, with the guest that it is in
abbrev pub line_does : Opening → Trees → ℕ → Progress Reply → Call → List Call → Option WordGuest → List Reply → Beside → Does
line_does o trees p far c cs g rs b = record {
  tree = trees.call p c;
  meaning = OfCall (row_of o p c);
  kept = [];
  far = far;
  bundles = b.bundles;
  within = λ run. record { lines = c ∷ cs; run = Some run; guest = g; replies = rs; beside = b };
  after = λ e run. after_turn c cs (guest_after e run.rest g) rs (beside_after e run.rest b) run (last_reply run.stage run.held);
}

abbrev pub call_does : Opening → Trees → ℕ → Lp → Call → List Call → List Reply → Beside → Does
call_does o trees p lp c cs rs b = line_does o trees p lp.call c cs None rs b

-- a guest's step, under the locks of its VP.ENTER
abbrev pub step_does : Opening → Trees → ℕ → Lp → Progress Reply → Call → List Call → Standing → WordGuest → List Reply → Beside → Does
step_does o trees p lp far c cs line x rs b = record {
  tree = trees.step p x.tdr x.vp (length rs + 1) (step_of o.codes b.cached x);
  meaning = trees.means p x.tdr x.vp (length rs + 1) (step_of o.codes b.cached x);
  kept = lp.call.held;
  far = far;
  bundles = b.bundles;
  within = λ run. record { lines = c ∷ cs; run = Some line; guest = Some (record x { run = Some run }); replies = rs; beside = b };
  after = λ e run. after_step c cs line x rs (beside_after e run.rest b) (step_of o.codes b.cached x) run (last_reply run.stage run.held);
}

-- at a call line
pub record IsOnLine (o : Opening) (trees : Trees) (p : ℕ) (lp : Lp) (at : WordLp) (d : Does) : Type 0 where
  pub call : Call
  pub further : List Call
  pub lines_are : at.lines ≡ call ∷ further
  pub outside : at.guest ≡ None
  pub guest : lp.guest ≡ None
  pub is : d ≡ call_does o trees p lp call further at.replies at.beside

-- or in a guest
pub record IsInStep (o : Opening) (trees : Trees) (p : ℕ) (lp : Lp) (at : WordLp) (d : Does) : Type 0 where
  pub call : Call
  pub further : List Call
  pub line : Standing
  pub base : WordGuest
  pub run : Standing
  pub guest : Guest
  pub own : Progress Reply
  pub lines_are : at.lines ≡ call ∷ further
  pub run_is : at.run ≡ Some line
  pub guest_is : at.guest ≡ Some (record base { run = Some run })
  pub freed : gives_epoch_back line.held ≡ false
  pub hand : (x : Hand) × IsHand line.hasher x
  pub is_in : lp.guest ≡ Some guest
  pub far : out_progress own ≡ guest.operation
  pub single : HasMoves (trees.means p base.tdr base.vp (length at.replies + 1) (step_of o.codes at.beside.cached base)) ⊎ (own ≡ nothing_yet)
  pub trying : own.phase ≡ Trying
  pub is : d ≡ step_does o trees p lp own call further line base at.replies at.beside

-- whatever others do, a processor that stands there does this while it is as it is
abbrev pub IsDoes : Opening → Trees → ℕ → Lp → WordLp → Does → Type 0
IsDoes o trees p lp at d = IsOnLine o trees p lp at d ⊎ IsInStep o trees p lp at d

-- what it does in a state: its leaf means what it does, which is the flat machine's next event, under these locks
pub record DoesHere (o : Opening) (s : State) (p : ℕ) (d : Does) : Type 0 where
  pub means : MeansRow (task_for o p d)
  pub doing : (mem : Memory) → IsDoing o (task_for o p d) s mem d.kept d.far
  pub locks : d.far.held ++ d.kept ≡ locks_at (s.lps p)
  pub held_tdrs : HoldTdrs (locks_at (s.lps p))
  pub undo_tdr : UndoTdr d.far.phase (locks_at (s.lps p))

-- the hasher that a run has in hand is this one, or is known
abbrev pub HandKnown : Option Standing → Option Measure → Type 0
HandKnown None h = Unit {0}
HandKnown (Some r) h = (r.hasher ≡ h) ⊎ ((x : Hand) × IsHand r.hasher x)

abbrev pub guest_run : Option WordGuest → Option Standing
guest_run None = None
guest_run (Some g) = g.run

-- so of a processor's line, and of its guest
abbrev pub HasInHand : WordLp → Option Measure → Type 0
HasInHand at h = HandKnown at.run h × HandKnown (guest_run at.guest) h

-- where a run then is doesn't hang on the hasher in hand
abbrev pub with_hasher : Standing → Option Measure → Standing
with_hasher run h = record run { hasher = h }

-- the bundles of all of them, where those of one grow
pub record Grows (before after was now : List Made) : Type 0 where
  pub more : List Made
  pub all : after ≡ added before more
  pub own : now ≡ added was more

-- a refusal, or the act that succeeds
abbrev pub IsAct : Move Reply → Type 0
IsAct (Refuses r) = Unit {0}
IsAct Succeeds = Unit {0}
IsAct _ = ⊥

-- where it leads: on its way, and after each turn of it
pub record Leads (o : Opening) (trees : Trees) (s : State) (p : ℕ) (d : Does) : Type 0 where
  pub within_stands : (words : WordPlace → ℕ) (run : Standing) → RunsAt (task_for o p d) d.far s.world words run → run.stage ≡ stages.Trying → StandsAt o trees p s.world words (s.lps p) (d.within run)
  pub within_is : (words : WordPlace → ℕ) (run : Standing) → RunsAt (task_for o p d) d.far s.world words run → run.stage ≡ stages.Trying → IsDoes o trees p (s.lps p) (d.within run) d
  pub within_bundles : (run : Standing) → (d.within run).beside.bundles ≡ d.bundles
  pub within_run : (words : WordPlace → ℕ) (run : Standing) (h : Option Measure) → RunsAt (task_for o p d) d.far s.world words run → run.stage ≡ stages.Trying → run.hasher ≡ h → HasInHand (d.within run) h
  pub turns : (words : WordPlace → ℕ) (run run' : Standing) (e : RunEvent) (tp : List Piece) → RunsAt (task_for o p d) d.far s.world words run → run.stage ≡ stages.Trying → TurnIn run.stage o.machine run tp run' e → has_ended run.stage run.held ≡ false → LpTurns (table_for o trees p) o.machine (d.within run) e tp (d.after e run')
  pub after_stands : (u : Table) (run' : Standing) (h : Option Measure) (e : RunEvent) → (la : LeafAfter o (task_for o p d) s d.far u (with_hasher run' h) e) → HasNoHasher run'
      → StandsAt o trees p (event o s p).world la.mem.words ((event o s p).lps p) (d.after e run')
  pub after_grows : (u : Table) (run' : Standing) (h : Option Measure) (e : RunEvent) → LeafAfter o (task_for o p d) s d.far u (with_hasher run' h) e → Grows (bundles_in s) (bundles_in (event o s p)) d.bundles (d.after e run').beside.bundles
  pub after_run : (e : RunEvent) (run' : Standing) (h : Option Measure) → run'.hasher ≡ h → HasInHand (d.after e run') h
  pub locks_stay : (mv : Move Reply) → IsAct mv → IsNext o s p (event_of d.meaning mv) → locks_at ((event o s p).lps p) ≡ locks_at (s.lps p)

-- a leaf that stores before its act: what its processor does, its run and the end that it has come to, the stores that it
-- made, and what it has still to do
pub record Fill : Type 0 where
  pub does : Does
  pub run : Standing
  pub answer : Answer
  pub fills : List Change
  pub changes : List Change
  pub made : List Due
  pub left : List Todo

-- a processor between two steps: at a turn, or within the loads of one. Either its last act is done, and these stores and
-- swaps are owed; or it fills, and these stores would take its fills back
pub record Position : Type 0 where
  pub at : WordLp
  pub owes : List Due
  pub swaps : List SwapDue
  pub fill : Option Fill

-- a word as a leaf that fills sees it, and what would take its fills back
abbrev pub seen_by : List Due → (WordPlace → ℕ) → WordPlace → ℕ
seen_by made words r = or_else (last_at made r) (words r)

abbrev pub back : Option ℕ → ℕ → Option ℕ
back None x = None
back (Some y) x = Some x

-- what is left of these; and the same where the first takes a word that was loaded, so that its store is left
pub record AreLeft (all left : List Todo) : Type 0 where
  pub done : List Todo
  pub is : all ≡ done ++ left

pub record AreLeftLoaded (all left : List Todo) : Type 0 where
  pub done : List Todo
  pub from : WordPlace
  pub at : WordPlace
  pub word : ℕ
  pub further : List Todo
  pub is : all ≡ done ++ Takes from at ∷ further
  pub left_is : left ≡ Puts (due at word) ∷ further

-- What is told of a leaf that fills: what it was told, the end that it has come to, and which fills are made. That they are
-- allowed its meaning says in each state.
pub record FillHolds (o : Opening) (trees : Trees) (p : ℕ) (w : World) (words a : WordPlace → ℕ) (lp : Lp) (at : WordLp) (owes : List Due) (f : Fill) : Type 0 where
  pub is : IsDoes o trees p lp at f.does
  pub at_is : at ≡ f.does.within f.run
  pub runs : RunsAt (task_for o p f.does) f.does.far w words f.run
  pub trying : f.run.stage ≡ stages.Trying
  pub rest : f.run.rest ≡ End f.answer f.fills f.changes
  pub left : AreLeft (all_todos f.fills) f.left ⊎ AreLeftLoaded (all_todos f.fills) f.left
  pub stores : f.made ++ dues_of f.left (seen_by f.made words) ≡ dues_of (all_todos f.fills) words
  pub there : (r : WordPlace) (x : ℕ) → IsIn o.machine r → last_at f.made r ≡ Some x → a r ≡ x
  pub undo : (r : WordPlace) → last_at owes r ≡ back (last_at f.made r) (words r)

abbrev pub Pending : Opening → Trees → ℕ → World → (words a : WordPlace → ℕ) → Lp → WordLp → List Due → Option Fill → Type 0
Pending o trees p w words a lp at owes None = Keeps o.machine (bare (locks_at lp)) w a owes
Pending o trees p w words a lp at owes (Some f) = FillHolds o trees p w words a lp at owes f

pub record Holds (o : Opening) (trees : Trees) (p : ℕ) (w : World) (words a : WordPlace → ℕ) (lp : Lp) (pos : Position) : Type 0 where
  pub stands : StandsAt o trees p w words lp pos.at
  pub due : Pending o trees p w words a lp pos.at pos.owes pos.fill

-- a table's words by their places
abbrev pub on_table : Machine → Table → WordPlace → ℕ
on_table m t q = t.words (address m.pages q)

-- what it has still to do: the stores and swaps that are owed, and its turns
pub record Rest (o : Opening) (trees : Trees) (p : ℕ) (at : WordLp) (owes : List Due) (swaps : List SwapDue) (ps : List Piece) (end_ : WordLp) : Type 0 where
  pub owed : List Owed
  pub owes_are : owes ≡ stores_in owed
  pub swaps_are : swaps ≡ swaps_in owed
  pub hasher : Option Measure
  pub hand : Hand
  pub in_hand : IsHand hasher hand
  pub items : List Taken
  pub last : Option Measure
  pub are : AreOwed o.machine.pages hasher hand items owed last
  pub last_is : HasInHand at last
  pub turns : List (List Piece)
  pub pieces : ps ≡ map Unmarked items ++ joined turns
  pub own : TurnsTo o trees p at turns end_

-- or the fills that are left, its act, and its further turns
pub record RestFilling (o : Opening) (trees : Trees) (p : ℕ) (swaps : List SwapDue) (f : Fill) (ps : List Piece) (end_ : WordLp) : Type 0 where
  pub no_swaps : swaps ≡ []
  pub stores : List Taken
  pub act : List Taken
  pub turns : List (List Piece)
  pub are : AreTodos o.machine.pages stores f.left
  pub hasher : Option Measure
  pub changed : AreChanged o.machine f.changes None act hasher
  pub pieces : ps ≡ map Unmarked stores ++ (marked_behind 0 act ++ joined turns)
  pub after : Standing
  pub after_is : after ≡ standing (End f.answer f.fills f.changes) (stages.Answered f.answer.reply) f.run.held hasher
  pub own : TurnsTo o trees p (f.does.after events.Act after) turns end_

abbrev pub RestBy : Opening → Trees → ℕ → Position → List Piece → WordLp → Option Fill → Type 0
RestBy o trees p pos ps end_ None = Rest o trees p pos.at pos.owes pos.swaps ps end_
RestBy o trees p pos ps end_ (Some f) = RestFilling o trees p pos.swaps f ps end_

abbrev pub RestOf : Opening → Trees → ℕ → Position → List Piece → WordLp → Type 0
RestOf o trees p pos ps end_ = RestBy o trees p pos ps end_ pos.fill

-- the slots of a table, with the swaps that are due laid over them, are these
pub record Slots (o : Opening) (s : State) (shown : ℕ → Hand) (table : ℕ → Option Measure) (pos : ℕ → Position) : Type 0 where
  pub now : ℕ → Hand
  pub there : (h : ℕ) → IsHkid o.machine h → IsHand (table (h - 1)) (now h)
  pub laid_is : (h : ℕ) → IsHkid o.machine h → shown h ≡ slots_laid (length o.calls) (λ p. (pos p).swaps) now h
  pub may : (p : ℕ) → p < length o.calls → SwapsMay o.machine (lock_grip_of s p) s.world now (pos p).swaps

-- all of them: memory with what is due laid over it shows the state
pub record Stands (o : Opening) (trees : Trees) (s : State) (mem : Memory) (t : Table) (pos : ℕ → Position) : Type 0 where
  pub shows : Shows o.machine mem.words mem.slots s
  pub hand : mem.hand ≡ None
  pub slots : Slots o s mem.slots t.slots pos
  pub bundles : AreBundlesOf (length o.calls) (λ p. (pos p).at) (bundles_in s)
  pub holds : (p : ℕ) → p < length o.calls → Holds o trees p s.world mem.words (on_table o.machine t) (s.lps p) (pos p)
  pub laid_is : (r : WordPlace) → IsIn o.machine r → mem.words r ≡ laid (length o.calls) (λ p. (pos p).owes) (on_table o.machine t) r
