-- How many events a logical processor over words can still give at most.
use Rattle.std.specs.Prelude.{ℕ, ◌+◌, ◌-◌, ◌*◌, List, [], ◌∷◌, length, Option, Some, None}
use Rattle.td_words.specs.declared.calls.Call.{Call}
use Rattle.td_words.specs.declared.calls.GuestOp.{GuestOp}
use Rattle.td_words.specs.declared.replies.Outcome.{Outcome}
use Rattle.flat_core.specs.Processor.{Translation}
use Rattle.flat_core.specs.Table.{most_tries, operation_events, guest_events}
use Rattle.flat_core.specs.Run.{events_in}
use Rattle.flat_core.specs.Bounds.{trying_left, undoing_left}
use Rattle.leaf_engine.specs.declared.events.Stage.{Stage}
use Rattle.leaf_engine.specs.declared.events.Stage.TheVariants as stage
use Rattle.leaf_engine.specs.Turns.{Standing}
use Rattle.leaf_engine.specs.Guests.{WordGuest, Step, Operates, Accesses, Loads, Leaves, step_of}
use Rattle.leaf_engine.specs.OwnLists.{WordLp}

-- a call with at most so many tries, and a guest of so many events: the tries to come, the act, the guest's events, and the
-- releases; or the undo and the releases
abbrev pub stage_left : (tries guest : ℕ) → Stage → (held : ℕ) → ℕ
stage_left n k stage.Trying held = trying_left n k held
stage_left n k (stage.Undoing name at) held = undoing_left held
stage_left n k (stage.Answered reply) held = held

abbrev pub run_left : Call → Option Standing → ℕ
run_left c None = trying_left (most_tries c) (guest_events c) 0
run_left c (Some s) = stage_left (most_tries c) (guest_events c) s.stage (length s.held)

-- how many of the five events of its operation a guest has used: of a row the locks that are held tell; of a private access
-- the walk, and that there is a translation
abbrev pub stage_used : Stage → (held : ℕ) → ℕ
stage_used stage.Trying held = held
stage_used (stage.Undoing name at) held = 4 - held
stage_used (stage.Answered reply) held = 5 - held

abbrev pub run_used : Option Standing → ℕ
run_used None = 0
run_used (Some s) = stage_used s.stage (length s.held)

abbrev pub step_used : Step → Option Standing → ℕ
step_used (Operates o) run = run_used run
step_used (Accesses access r gpa page) run = 4
step_used (Loads access gpa level page) run = 3 - level
step_used (Leaves out) run = 0

-- five for each operation that may still be completed, less those used; none once the guest is to be left
abbrev pub unless_leaving : Option Outcome → ℕ → ℕ
unless_leaving (Some out) n = 0
unless_leaving None n = n

abbrev pub guest_left : (ℕ → ℕ → List GuestOp) → List Translation → WordGuest → ℕ
guest_left codes ts g = unless_leaving g.leaving (operation_events * (g.most - g.completed) - step_used (step_of codes ts g) g.run)

-- the guest's, the count step, and the releases
abbrev pub held_in : Option Standing → ℕ
held_in None = 0
held_in (Some s) = length s.held

abbrev pub line_left : (ℕ → ℕ → List GuestOp) → List Translation → Call → Option Standing → Option WordGuest → ℕ
line_left codes ts c run None = run_left c run
line_left codes ts c run (Some g) = held_in run + 1 + guest_left codes ts g

-- with these lines left
abbrev pub left_of : (ℕ → ℕ → List GuestOp) → List Translation → List Call → Option Standing → Option WordGuest → ℕ
left_of codes ts [] run g = 0
left_of codes ts (c ∷ cs) run g = line_left codes ts c run g + events_in cs

abbrev pub events_left : (ℕ → ℕ → List GuestOp) → WordLp → ℕ
events_left codes p = left_of codes p.beside.cached p.lines p.run p.guest
