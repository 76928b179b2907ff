-- Where a processor over words stands beside the flat machine: between two calls, in the call of its present line, or in a
-- guest.
use Rattle.std.specs.Prelude.{◌≡◌, ◌⊎◌, ℕ, ◌+◌, Bool, true, false, if◌then◌else◌, Option, Some, None, List, ◌∷◌, slice_index}
use Rattle.td_words.specs.declared.calls.Call.{Call}
use Rattle.td_words.specs.declared.replies.Outcome.{Outcome}
use Rattle.td_words.specs.declared.replies.Outcome.TheVariants.{Vmcall}
use Rattle.td_words.specs.declared.replies.Reply.{Reply}
use Rattle.td_words.specs.declared.refusals.Status.TheVariants.{OperandBusy}
use Rattle.td_words.specs.declared.replies.Reply.TheVariants.{Done, Refused, Exited}
use Rattle.td_words.specs.Place.{WordPlace}
use Rattle.flat_core.specs.World.{World}
use Rattle.flat_core.specs.Processor.{Phase, Trying, Undoing, Answered, Progress, nothing_yet, Guest, Lp}
use Rattle.flat_core.specs.Opening.{Opening}
use Rattle.flat_core.specs.Table.{row_of}
use Rattle.flat_core.specs.Event.{lines_left}
use Rattle.flat_core.specs.Laws.{IsBetween}
use Rattle.leaf_engine.specs.declared.events.Stage.{Stage}
use Rattle.leaf_engine.specs.declared.events.Stage.TheVariants as stages
use Rattle.leaf_engine.specs.Besides.{Beside, beside_of}
use Rattle.leaf_engine.specs.Changes.{Hand}
use Rattle.leaf_engine.specs.Decides.{IsHand}
use Rattle.leaf_engine.specs.Means.{Task}
use Rattle.leaf_engine.specs.Turns.{Standing}
use Rattle.leaf_engine.specs.Guests.{WordGuest, gives_epoch_back}
use Rattle.leaf_engine.specs.OwnLists.{LeafTable, WordLp, step_leaf}
use Rattle.leaf_engine.specs.Calls.{AreLocks, IsLine, IsCallAt}
use Rattle.leaf_engine.specs.Doing.{outcome_of, HasMoves, LeafAt}

-- how far a leaf of a guest is, as the flat machine's operation has it
abbrev pub out_phase : Phase Reply → Phase (Option Outcome)
out_phase Trying = Trying
out_phase (Undoing l) = Undoing l
out_phase (Answered r) = Answered (outcome_of r)

abbrev pub out_progress : Progress Reply → Progress (Option Outcome)
out_progress x = record { phase = out_phase x.phase; held = x.held }

-- no hasher is in hand on the way
abbrev pub HasNoHasher : Standing → Type 0
HasNoHasher run = run.stage ≡ stages.Trying → run.hasher ≡ None

-- an operation of a guest is refused where a lock is busy, and for nothing else
abbrev pub IsOfGuest : Reply → Type 0
IsOfGuest (Done v) = Unit {0}
IsOfGuest (Exited out) = Unit {0}
IsOfGuest (Refused (OperandBusy n)) = Unit {0}
IsOfGuest (Refused _) = ⊥

abbrev pub AnswersGuest : Phase Reply → Type 0
AnswersGuest Trying = Unit {0}
AnswersGuest (Undoing l) = Unit {0}
AnswersGuest (Answered r) = IsOfGuest r

-- the run of a guest's step is as far as the operation; one that is a single event has done nothing yet
pub record RunOfStep (task : Task) (w : World) (words : WordPlace → ℕ) (run : Standing) (x : Progress (Option Outcome)) : Type 0 where
  pub own : Progress Reply
  pub is : out_progress own ≡ x
  pub at : LeafAt task w words run own
  pub waits : HasNoHasher run
  pub single : HasMoves task.meaning ⊎ (own ≡ nothing_yet)
  pub answers : AnswersGuest own.phase

abbrev pub IsStepRun : Task → World → (WordPlace → ℕ) → Option Standing → Progress (Option Outcome) → Type 0
IsStepRun task w words None x = x ≡ nothing_yet
IsStepRun task w words (Some run) x = RunOfStep task w words run x

-- the position, where the act of its operation is done and its locks are still held
abbrev pub is_behind : Reply → Bool
is_behind (Done v) = true
is_behind (Exited (Vmcall x)) = true
is_behind _ = false

abbrev pub position_in : ℕ → Stage → ℕ
position_in n (stages.Answered r) = if is_behind r then n + 1 else n
position_in n _ = n

abbrev pub position_at : ℕ → Option Standing → ℕ
position_at n None = n
position_at n (Some run) = position_in n run.stage

-- the flat machine's guest is where a processor over words has it
pub record IsGuestAt (task : Task) (w : World) (words : WordPlace → ℕ) (g : Guest) (x : WordGuest) : Type 0 where
  pub tdr : g.tdr ≡ x.tdr
  pub vp : g.vp ≡ x.vp
  pub most : g.most ≡ x.most
  pub completed : g.completed ≡ x.completed
  pub walk : g.walk ≡ x.walk
  pub leaving : g.leaving ≡ x.leaving
  pub root : slice_index (w.tds.controls x.tdr) 1 ≡ x.root
  pub index : w.vps.indexes x.vp ≡ x.index
  pub position : w.vps.positions x.vp ≡ position_at x.position x.run
  pub operation : IsStepRun task w words x.run g.operation

-- its VP.ENTER has acted, and holds what the flat machine's does; while E is to be given back its guest has done nothing. What
-- VP.ENTER had in hand it has again at the exit
pub record GuestStands (o : Opening) (t : LeafTable) (p : ℕ) (c : Call) (w : World) (words : WordPlace → ℕ) (lp : Lp) (line : Standing) (x : WordGuest) (rs : List Reply) (b : Beside) : Type 0 where
  pub line_is : IsLine o p (row_of o p c) lp
  pub guest : Guest
  pub is_in : lp.guest ≡ Some guest
  pub reply : Reply
  pub answered : line.stage ≡ stages.Answered reply
  pub held : AreLocks o.machine w line.held lp.call.held
  pub at : IsGuestAt (step_leaf t x rs b) w words guest x
  pub fresh : gives_epoch_back line.held ≡ true → x.run ≡ None
  pub hand : Hand
  pub in_hand : IsHand line.hasher hand

-- in the call of a line
pub record CallStands (o : Opening) (t : LeafTable) (p : ℕ) (c : Call) (w : World) (words : WordPlace → ℕ) (lp : Lp) (run : Standing) : Type 0 where
  pub at : IsCallAt o (t.call c) (row_of o p c) w words lp run
  pub waits : HasNoHasher run

abbrev pub RunStands : Opening → LeafTable → ℕ → World → (WordPlace → ℕ) → Lp → List Call → Option Standing → Option WordGuest → List Reply → Beside → Type 0
RunStands o t p w words lp cs None None rs b = IsBetween lp
RunStands o t p w words lp (c ∷ cs) (Some run) None rs b = CallStands o t p c w words lp run
RunStands o t p w words lp (c ∷ cs) (Some line) (Some x) rs b = GuestStands o t p c w words lp line x rs b
RunStands o t p w words lp _ _ _ rs b = ⊥

-- processor p of a world, with its record, is where a processor over words is
pub record LpStands (o : Opening) (t : LeafTable) (p : ℕ) (w : World) (words : WordPlace → ℕ) (lp : Lp) (at : WordLp) : Type 0 where
  pub lines : lines_left o p lp ≡ at.lines
  pub replies : lp.replies ≡ at.replies
  pub beside : beside_of lp at.beside.bundles ≡ at.beside
  pub run : RunStands o t p w words lp at.lines at.run at.guest at.replies at.beside
