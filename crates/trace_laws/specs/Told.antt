-- What an event was, as a logical processor over words tells it.
use Rattle.std.specs.Prelude.{ℕ, ◌+◌, List, length, Option, Some, None}
use Rattle.td_words.specs.declared.calls.GuestOp.{GuestOp}
use Rattle.leaf_engine.specs.declared.events.Event.{Event}
use Rattle.leaf_engine.specs.declared.events.Event.TheVariants as event
use Rattle.leaf_engine.specs.Guests.{WordGuest, Step, Operates, Accesses, Loads, Leaves, step_of}
use Rattle.leaf_engine.specs.Besides.{Beside}
use Rattle.leaf_engine.specs.OwnLists.{WordLp}
use Rattle.trace_lines.specs.declared.traces.What.{What}
use Rattle.trace_lines.specs.declared.traces.What.TheVariants as what
use Rattle.trace_lines.specs.declared.traces.Traced.{Traced}
use Rattle.trace_lines.specs.Traces.{reply_behind}

-- the act of a guest's step: an access reaches a page, the load of an entry is a step of a walk, and the exit counts
abbrev pub step_told : Step → What
step_told (Operates operation) = what.Acts
step_told (Accesses access r gpa page) = what.Accesses access gpa page
step_told (Loads access gpa level page) = what.Walks gpa level
step_told (Leaves out) = what.Counts

-- in a guest, an act is that of its next step, by the lists of operations
abbrev pub act_told : (ℕ → ℕ → List GuestOp) → Option WordGuest → Beside → What
act_told codes None b = what.Acts
act_told codes (Some g) b = step_told (step_of codes b.cached g)

-- an event, where an act is told so. A turn makes none but tries, undos, acts and releases.
abbrev pub event_told : (act : What) → Event → What
event_told act (event.Try name mode granted) = what.Tries name mode granted
event_told act (event.Undo name) = what.Undoes name
event_told act (event.Free name) = what.Releases name
event_told act _ = act

-- what a turn from there was that makes this event
abbrev pub told : (ℕ → ℕ → List GuestOp) → WordLp → Event → What
told codes at e = event_told (act_told codes at.guest at.beside) e

-- the turn of processor p from one place to another, as the event of that number
abbrev pub turn_told : (ℕ → ℕ → List GuestOp) → (number p : ℕ) → (at after : WordLp) → Event → Traced
turn_told codes number p at after e = record {
  number = number;
  lp = p;
  line = length at.replies + 1;
  what = told codes at e;
  reply = reply_behind (length at.replies) after.replies;
}
