-- What a logical processor keeps of the guest that it is in.
use Rattle.std.specs.Prelude.{◌≡◌, ℕ, ◌<◌, ◌≤◌, Bool, true, if◌then◌else◌, is_none, List, Option, Some, None, IfSome, option_map, length, get_or}
use Rattle.std.specs.List.{All}
use Rattle.std.proofs.Props.{props}
use Rattle.td_words.specs.Seen.{CodeSeen}
use Rattle.td_words.specs.declared.machines.Machine.{Machine}
use Rattle.td_words.specs.declared.calls.GuestOp.{GuestOp}
use Rattle.td_words.specs.declared.calls.GuestOp.TheVariants as op
use Rattle.td_words.specs.declared.replies.Reply.{Reply}
use Rattle.flat_core.specs.Processor.{Translation}
use Rattle.leaf_engine.specs.Turns.{Standing}
use Rattle.leaf_engine.specs.Guests.{WordGuest, Step, gives_epoch_back}
use Rattle.leaf_engine.specs.OwnLists.{line_after}
use Rattle.leaf_engine.specs.Merges.{IsOperation}
use Rattle.leaf_table.specs.Ends.{step_tries, step_ends}
use Rattle.leaf_dispatch.specs.Guests.{guest_seen, next_in, IsLow}
use Rattle.leaf_dispatch.specs.Running.{IsAnswered}
use Rattle.leaf_dispatch.specs.Kept.{IsAnswered-prop}
use Rattle.leaf_dispatch.specs.StepRuns.{step_run_seen, IsStepRunOf, IsStepRunOf-prop}
use Rattle.leaf_table.specs.Table.{code_in}
use Rattle.leaf_dispatch.specs.declared.guests.WalkAt.{WalkAt}
use Rattle.leaf_dispatch.specs.declared.guests.GuestAt.{GuestAt}
use Rattle.leaf_dispatch.specs.declared.running.Running.{Running}
use Rattle.leaf_dispatch.specs.declared.step_runs.StepRun.{StepRun}

-- the guest, with the run of its step
abbrev pub guest_in : Option GuestAt → StepRun → Option WordGuest
guest_in None step = None
guest_in (Some g) step = Some (guest_seen g (step_run_seen step))

-- the guest that makes the next event: none outside guests, and none while its VP.ENTER is to give E back
abbrev pub unless_gives : Bool → GuestAt → Option GuestAt
unless_gives b g = if b then None else Some g

abbrev pub acting : Option GuestAt → Option Running → Option GuestAt
acting None run = None
acting (Some g) None = None
acting (Some g) (Some r) = unless_gives (gives_epoch_back r.run.held.items) g

-- the guest behind an event: one that was entered, or else the one before
abbrev pub entered_or : Option GuestAt → Option GuestAt → Option GuestAt
entered_or (Some g) h = Some g
entered_or None h = h

-- The guest behind an event of a line, by the one that the event enters: its pages are the machine's, and its list is that of its
-- virtual processor.
abbrev pub HasEntered : Machine → List CodeSeen → Option WordGuest → (before after : Option GuestAt) → Type 0
HasEntered m codes entered before after =
    (g : Option GuestAt) × (after ≡ entered_or g before) × (option_map (λ x. guest_seen x None) g ≡ entered)
    × IfSome g (λ x. (x.tdr < m.pages) × (x.vp < m.pages) × (code_in codes x.tdr x.index ≡ x.list.now) × IsLow x.walk)

-- the run of VP.ENTER behind an event of its guest
abbrev pub line_then : Step → Option Reply → Option Standing → Option Standing
line_then s None run = run
line_then s (Some r) run = option_map (line_after s r) run

-- every operation of a script's lists is within the limits
abbrev pub AreOperations : List CodeSeen → Type 0
AreOperations codes = (t i : ℕ) → All IsOperation (code_in codes t i)

-- Its pages are the machine's, its list is that of its virtual processor, and it has completed no more operations than are
-- behind its position; the run that is kept is that of its next step, and there is none where that step is a single event.
pub record IsGuestKept (m : Machine) (codes : List CodeSeen) (ts : List Translation) (line : ℕ) (g : GuestAt) (step : StepRun) : Type 0 where
  pub tdr : g.tdr < m.pages
  pub vp : g.vp < m.pages
  pub list : code_in codes g.tdr g.index ≡ g.list.now
  pub low : IsLow g.walk
  pub ahead : g.completed ≤ g.position
  pub under_way : IsStepRunOf m (step_ends g.tdr line (next_in ts g None)) step
  pub alone : step_tries (next_in ts g None) ≡ 0 → is_none (step_run_seen step) ≡ true

-- in a guest VP.ENTER has acted; outside guests no run of a step is kept
abbrev pub KeepsGuest : Machine → List CodeSeen → List Translation → (line : ℕ) → Option GuestAt → Option Running → StepRun → Type 0
KeepsGuest m codes ts line None run step = is_none (step_run_seen step) ≡ true
KeepsGuest m codes ts line (Some g) None step = ⊥
KeepsGuest m codes ts line (Some g) (Some r) step = IsAnswered (Some r) × IsGuestKept m codes ts line g step

-- each has one proof

IsOperation-prop : (o : GuestOp) → IsProp (IsOperation o)
IsOperation-prop (op.Set r x) = hlevel props
IsOperation-prop (op.Secret r k) = hlevel props
IsOperation-prop (op.Add r s) = hlevel props
IsOperation-prop (op.Load r gpa) = hlevel props
IsOperation-prop (op.Store r gpa) = hlevel props
IsOperation-prop (op.Accept gpa) = hlevel props
IsOperation-prop (op.Rtmr i) = hlevel props
IsOperation-prop op.Report = hlevel
IsOperation-prop (op.Vmcall r) = hlevel props

pub AreOperations-prop : (codes : List CodeSeen) → IsProp (AreOperations codes)
AreOperations-prop codes = hlevel (λ (t i k : ℕ) (d : GuestOp) (l : k < length (code_in codes t i)). IsOperation-prop (get_or (code_in codes t i) k d))

IsLow-prop : (w : Option WalkAt) → IsProp (IsLow w)
IsLow-prop None = hlevel
IsLow-prop (Some w) = hlevel props

IsGuestKept-prop : (m : Machine) (codes : List CodeSeen) (ts : List Translation) (line : ℕ) (g : GuestAt) (step : StepRun) → IsProp (IsGuestKept m codes ts line g step)
IsGuestKept-prop m codes ts line g step = hlevel (props, IsLow-prop, IsStepRunOf-prop)

pub KeepsGuest-prop : (m : Machine) (codes : List CodeSeen) (ts : List Translation) (line : ℕ) (g : Option GuestAt) (run : Option Running) (step : StepRun) → IsProp (KeepsGuest m codes ts line g run step)
KeepsGuest-prop m codes ts line None run step = hlevel props
KeepsGuest-prop m codes ts line (Some g) None step = hlevel
KeepsGuest-prop m codes ts line (Some g) (Some r) step = hlevel (IsAnswered-prop, IsGuestKept-prop)
