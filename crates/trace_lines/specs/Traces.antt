-- The trace of a run: each of its events, in order, with what it was.
use Rattle.std.specs.Prelude.{ℕ, ◌+◌, Bool, List, [], ◌∷◌, ◌++◌, length, drop, Option, Some, None}
use Rattle.td_words.specs.declared.replies.Reply.{Reply}
use Rattle.flat_core.specs.Processor.{name_of, Guest}
use Rattle.flat_core.specs.Row.{Move, Attempts, Undoes, Refuses, Succeeds, Releases, Rests}
use Rattle.flat_core.specs.Guest.{walk_level}
use Rattle.flat_core.specs.Opening.{Opening}
use Rattle.flat_core.specs.Event.{State, start, Event, OfCall, OfOperation, Walks, Reaches, Leaves, is_granted, next_event, event}
use Rattle.flat_core.specs.Run.{to_the_end}
use Rattle.trace_lines.specs.declared.traces.What.{What}
use Rattle.trace_lines.specs.declared.traces.What.TheVariants as what
use Rattle.trace_lines.specs.declared.traces.Traced.{Traced}

-- what a move of a call or an operation was, where its try is granted or not. A refusal by a condition is told as an act; and
-- none that rests is an event
abbrev pub move_is : {R : Type 0} → (granted : Bool) → Move R → What
move_is granted (Attempts l m) = what.Tries (name_of l) m granted
move_is granted (Undoes l) = what.Undoes (name_of l)
move_is granted (Refuses r) = what.Acts
move_is granted Succeeds = what.Acts
move_is granted (Releases h) = what.Releases (name_of h.lock)
move_is granted Rests = what.Acts

-- the level of the entry that a processor's guest loads next in its walk
abbrev pub guest_level : Option Guest → ℕ
guest_level None = 3
guest_level (Some g) = walk_level g.walk

-- what an event of processor p was, in the state before it
abbrev pub what_is : State → (p : ℕ) → Event → What
what_is s p (OfCall row move) = move_is (is_granted s (OfCall row move)) move
what_is s p (OfOperation row move) = move_is (is_granted s (OfOperation row move)) move
what_is s p (Walks access gpa) = what.Walks gpa (guest_level (s.lps p).guest)
what_is s p (Reaches t v access r gpa page) = what.Accesses access gpa page
what_is s p (Leaves v out) = what.Counts

-- the reply that comes behind as many as there were
abbrev pub first_reply : List Reply → Option Reply
first_reply [] = None
first_reply (r ∷ rs) = Some r

abbrev pub reply_behind : ℕ → List Reply → Option Reply
reply_behind n rs = first_reply (drop n rs)

-- the event of that number: the call line is behind those that are answered, and the reply is new in the state after it
abbrev pub traced : (before after : State) → (number p : ℕ) → Event → Traced
traced s s' number p e = record {
  number = number;
  lp = p;
  line = length (s.lps p).replies + 1;
  what = what_is s p e;
  reply = reply_behind (length (s.lps p).replies) (s'.lps p).replies;
}

-- The events from a state on, by the processors' numbers; numbers of processors that have none left are passed over.
abbrev pub traced_first : (before after : State) → (number p : ℕ) → Option Event → (further : ℕ → List Traced) → List Traced
traced_first s s' number p None further = further number
traced_first s s' number p (Some e) further = traced s s' number p e ∷ further (number + 1)

abbrev pub traces_from : Opening → State → (number : ℕ) → List ℕ → List Traced
traces_from o s number [] = []
traces_from o s number (p ∷ ps) = traced_first s (event o s p) number p (next_event o s p) (λ n. traces_from o (event o s p) n ps)

-- the trace of a run
abbrev pub traces : Opening → List ℕ → List Traced
traces o schedule = traces_from o (start o None) 1 (schedule ++ to_the_end 0 o.calls)
