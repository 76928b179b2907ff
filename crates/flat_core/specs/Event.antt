-- Events: the next one of a logical processor, and what it makes of the world and of that processor's record.
use Rattle.std.specs.Prelude.{ℕ, zero, suc, ◌+◌, List, [], ◌∷◌, ◌++◌, length, drop, Option, Some, None, option_map, Bool, true, false, nat_le, slice_get}
use Rattle.td_words.specs.declared.names.LockName.{LockName}
use Rattle.td_words.specs.declared.names.Access.{Access}
use Rattle.td_words.specs.declared.refusals.Status.TheVariants.{OperandBusy}
use Rattle.td_words.specs.declared.replies.Outcome.{Outcome}
use Rattle.td_words.specs.declared.replies.Outcome.TheVariants.{Stop, Max, Busy}
use Rattle.td_words.specs.declared.replies.Reply.{Reply}
use Rattle.td_words.specs.declared.replies.Reply.TheVariants.{Done, Refused, Exited}
use Rattle.td_words.specs.declared.calls.Call.{Call}
use Rattle.td_words.specs.declared.calls.GuestOp.{GuestOp}
use Rattle.flat_core.specs.World.{World, first_world, put}
use Rattle.flat_core.specs.Processor.{LockId, OfEpoch, Held, Phase, Trying, Undoing, Answered, nothing_yet, Guest, Entering, new_guest, Translation, Note, Lp, idle}
use Rattle.flat_core.specs.Locks.{grants}
use Rattle.flat_core.specs.Opening.{Opening}
use Rattle.flat_core.specs.Row.{Row, OperationRow, Move, Attempts, Undoes, Succeeds, Releases, next_in, after_move}
use Rattle.flat_core.specs.Table.{row_of}
use Rattle.flat_core.specs.Effects.{leave_guest, tell_words}
use Rattle.flat_core.specs.Translations.{look_up}
use Rattle.flat_core.specs.Tree.{page_of_gpa}
use Rattle.flat_core.specs.Guest.{Operation, ByRow, Private, plain_operation, operation_of, reach, reach_notes, answered, walk_step, walk_cached}

-- a state of the flat machine, with as many processors as take part
pub record State : Type 0 where
  pub world : World
  pub lps : ℕ → Lp
  pub lp_count : ℕ

-- the start of a run, with the words to tell where they are given
abbrev pub start : Opening → Option (List ℕ) → State
start o words_to_tell = record { world = first_world o.machine.pages words_to_tell; lps = λ p. idle; lp_count = length o.calls }

-- one event of a processor: of its call; of its guest's operation; the load of an entry in a guest's walk; a guest's
-- access to a word of a page through a translation; or the count step, with which it leaves the guest
pub data Event : Type 0 where
  OfCall : (row : Row) (move : Move Reply) → Event
  OfOperation : (row : OperationRow) (move : Move (Option Outcome)) → Event
  Walks : (access : Access) (gpa : ℕ) → Event
  Reaches : (tdr vp : ℕ) (access : Access) (register gpa page : ℕ) → Event
  Leaves : (vp : ℕ) (outcome : Outcome) → Event

-- the next event

abbrev pub private_event : Guest → Access → (register gpa : ℕ) → Option ℕ → Event
private_event g access r gpa None = Walks access gpa
private_event g access r gpa (Some page) = Reaches g.tdr g.vp access r gpa page

abbrev pub operation_event : World → Lp → Guest → Operation → Event
operation_event w lp g (ByRow row) = OfOperation row (next_in (row.items w) g.operation.phase g.operation.held)
operation_event w lp g (Private access r gpa) = private_event g access r gpa (look_up lp.cached g.tdr (page_of_gpa gpa) access)

-- at the list's end the guest is left, which is tested first; then, after as many operations as were asked for
abbrev pub max_event : Opening → World → Lp → Guest → GuestOp → Bool → Event
max_event o w lp g op true = Leaves g.vp Max
max_event o w lp g op false = operation_event w lp g (operation_of o g.tdr g.vp (length lp.replies + 1) op)

abbrev pub due_event : Opening → World → Lp → Guest → Option GuestOp → Event
due_event o w lp g None = Leaves g.vp Stop
due_event o w lp g (Some op) = max_event o w lp g op (nat_le g.most g.completed)

-- the operation at a virtual processor's position in its list
abbrev pub operation_due : Opening → World → Guest → Option GuestOp
operation_due o w g = slice_get (o.codes g.tdr (w.vps.indexes g.vp)) (w.vps.positions g.vp)

abbrev pub nothing_more : OperationRow
nothing_more = plain_operation (λ w. w)

-- an operation that was denied or is answered undoes and releases first
abbrev pub staying_event : Opening → World → Lp → Guest → Phase (Option Outcome) → Event
staying_event o w lp g Trying = due_event o w lp g (operation_due o w g)
staying_event o w lp g (Undoing l) = OfOperation nothing_more (Undoes l)
staying_event o w lp g (Answered out) = OfOperation nothing_more (next_in [] (Answered out) g.operation.held)

-- a guest's next event: it is left, or goes on
abbrev pub guest_event : Opening → World → Lp → Guest → Option Outcome → Event
guest_event o w lp g (Some out) = Leaves g.vp out
guest_event o w lp g None = staying_event o w lp g g.operation.phase

-- a lock that is the E of a TD
abbrev pub is_epoch_lock : LockId → Bool
is_epoch_lock (OfEpoch t) = true
is_epoch_lock _ = false

-- VP.ENTER gives E back before its guest's first operation
abbrev pub epoch_event : Opening → World → Lp → Row → Guest → Held → Bool → Event
epoch_event o w lp row g h true = OfCall row (Releases h)
epoch_event o w lp row g h false = guest_event o w lp g g.leaving

abbrev pub entered_event : Opening → World → Lp → Row → Guest → List Held → Event
entered_event o w lp row g [] = guest_event o w lp g g.leaving
entered_event o w lp row g (h ∷ hs) = epoch_event o w lp row g h (is_epoch_lock h.lock)

-- a call goes by its row until it enters a guest
abbrev pub line_event : Opening → World → Lp → Row → Option Guest → Event
line_event o w lp row None = OfCall row (next_in (row.items w) lp.call.phase lp.call.held)
line_event o w lp row (Some g) = entered_event o w lp row g lp.call.held

abbrev pub calls_of : List (List Call) → ℕ → List Call
calls_of [] p = []
calls_of (cs ∷ css) zero = cs
calls_of (cs ∷ css) (suc p) = calls_of css p

-- the lines of a processor that aren't done
abbrev pub lines_left : Opening → ℕ → Lp → List Call
lines_left o p lp = drop (length lp.replies) (calls_of o.calls p)

abbrev pub event_for : Opening → World → ℕ → Lp → List Call → Option Event
event_for o w p lp [] = None
event_for o w p lp (c ∷ cs) = Some (line_event o w lp (row_of o p c) lp.guest)

-- the next event of processor p; none where it has no line left
abbrev pub next_event : Opening → State → ℕ → Option Event
next_event o s p = event_for o s.world p (s.lps p) (lines_left o p (s.lps p))

-- what it makes of the world

abbrev pub call_world : Row → Move Reply → World → World
call_world row Succeeds w = row.act w
call_world row _ w = w

abbrev pub operation_world : OperationRow → Move (Option Outcome) → World → World
operation_world row Succeeds w = tell_words (row.tells w) (row.act w)
operation_world row _ w = w

abbrev pub world_after : Event → World → World
world_after (OfCall row move) w = call_world row move w
world_after (OfOperation row move) w = operation_world row move w
world_after (Walks access gpa) w = w
world_after (Reaches t v access r gpa page) w = reach t v access r gpa page w
world_after (Leaves v out) w = leave_guest v w

-- what it makes of the processor's record

-- a call that is answered and holds nothing is done
abbrev pub settle : Phase Reply → List Held → Lp → Lp
settle (Answered r) [] lp = record lp { call = nothing_yet; replies = lp.replies ++ r ∷ [] }
settle (Answered r) (h ∷ hs) lp = lp
settle Trying hs lp = lp
settle (Undoing l) hs lp = lp

abbrev pub settled : Lp → Lp
settled lp = settle lp.call.phase lp.call.held lp

-- An operation that is answered and holds nothing is done. Where it answers nothing it was completed, which is counted; else
-- the guest is to be left, and nothing is counted: neither of one that wasn't completed nor of a VMCALL, which was.
abbrev pub settle_operation : Phase (Option Outcome) → List Held → Guest → Guest
settle_operation (Answered None) [] g = record g { operation = nothing_yet; walk = None; completed = g.completed + 1 }
settle_operation (Answered (Some out)) [] g = record g { operation = nothing_yet; walk = None; leaving = Some out }
settle_operation (Answered out) (h ∷ hs) g = g
settle_operation Trying hs g = g
settle_operation (Undoing l) hs g = g

abbrev pub settled_guest : Guest → Guest
settled_guest g = settle_operation g.operation.phase g.operation.held g

abbrev pub call_busy : LockName → Reply
call_busy n = Refused (OperandBusy n)

abbrev pub operation_busy : LockName → Option Outcome
operation_busy n = Some (Busy n)

-- a call that enters a guest is answered at the guest's exit
abbrev pub succeeded : World → Row → Option Entering → Lp → Lp
succeeded w row None lp = record lp { call = record { phase = Answered (Done (row.value w)); held = lp.call.held }; cached = row.cached w lp.cached }
succeeded w row (Some e) lp = record lp { guest = Some (new_guest e); cached = row.cached w lp.cached }

abbrev pub call_lp : World → Bool → Row → Move Reply → Lp → Lp
call_lp w granted row Succeeds lp = succeeded w row row.enters lp
call_lp w granted row move lp = record lp { call = after_move call_busy granted (Done (row.value w)) move lp.call }

abbrev pub operation_notes : World → OperationRow → Move (Option Outcome) → List Note
operation_notes w row Succeeds = row.notes w
operation_notes w row _ = []

abbrev pub operation_told : World → OperationRow → Move (Option Outcome) → List ℕ
operation_told w row Succeeds = row.tells w
operation_told w row _ = []

abbrev pub operation_guest : World → Bool → OperationRow → Move (Option Outcome) → Guest → Guest
operation_guest w granted row move g = settled_guest (record g { operation = after_move operation_busy granted (row.answer w) move g.operation })

-- the translations after the load of an entry in the guest's walk
abbrev pub walk_translations : World → Access → ℕ → Option Guest → List Translation → List Translation
walk_translations w access gpa None cs = cs
walk_translations w access gpa (Some g) cs = walk_cached w g access gpa cs

abbrev pub lp_after : World → Bool → Event → Lp → Lp
lp_after w granted (OfCall row move) lp = settled (call_lp w granted row move lp)
lp_after w granted (OfOperation row move) lp =
    record lp {
      guest = option_map (operation_guest w granted row move) lp.guest;
      notes = lp.notes ++ operation_notes w row move;
      told = lp.told ++ operation_told w row move;
    }
lp_after w granted (Walks access gpa) lp =
    record lp { guest = option_map (λ g. settled_guest (walk_step w g access gpa)) lp.guest; cached = walk_translations w access gpa lp.guest lp.cached }
lp_after w granted (Reaches t v access r gpa page) lp =
    record lp { guest = option_map (λ g. settled_guest (answered None g)) lp.guest; notes = lp.notes ++ reach_notes w access (length lp.replies + 1) gpa page }
lp_after w granted (Leaves v out) lp = record lp { guest = None; call = record { phase = Answered (Exited out); held = lp.call.held } }

-- whether the try of an event is granted
abbrev pub is_granted_in : (ℕ → Lp) → ℕ → Event → Bool
is_granted_in lps n (OfCall row (Attempts l m)) = grants lps n l m
is_granted_in lps n (OfOperation row (Attempts l m)) = grants lps n l m
is_granted_in lps n _ = false

abbrev pub is_granted : State → Event → Bool
is_granted s e = is_granted_in s.lps s.lp_count e

abbrev pub after_event : ℕ → State → Option Event → State
after_event p s None = s
after_event p s (Some e) = record s { world = world_after e s.world; lps = put s.lps p (lp_after s.world (is_granted s e) e (s.lps p)) }

-- one event of processor p; nothing where it has no line left
abbrev pub event : Opening → State → ℕ → State
event o s p = after_event p s (next_event o s p)
