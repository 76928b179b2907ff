-- How many events a processor can still make at most.
use Rattle.std.specs.Prelude.{◌≡◌, ℕ, ◌+◌, ◌-◌, ◌*◌, ◌<◌, ◌≤◌, List, [], ◌∷◌, length, Option, Some, None, IfSome}
use Rattle.td_words.specs.declared.calls.Call.{Call}
use Rattle.td_words.specs.declared.calls.Call.TheVariants as call
use Rattle.td_words.specs.declared.calls.GuestOp.{GuestOp}
use Rattle.td_words.specs.declared.replies.Outcome.{Outcome}
use Rattle.td_words.specs.declared.replies.Reply.{Reply}
use Rattle.flat_core.specs.Processor.{Phase, Trying, Undoing, Answered, Walk, Guest, Lp}
use Rattle.flat_core.specs.Opening.{Opening, Incoming}
use Rattle.flat_core.specs.World.{World}
use Rattle.flat_core.specs.Row.{tries_in}
use Rattle.flat_core.specs.Table.{row_of, most_tries, operation_events, guest_events}
use Rattle.flat_core.specs.Tree.{page_of_gpa}
use Rattle.flat_core.specs.Translations.{look_up}
use Rattle.flat_core.specs.Guest.{Operation, ByRow, Private, operation_of, walk_level}
use Rattle.flat_core.specs.Event.{State, Event, next_event, lines_left, event, operation_due}
use Rattle.flat_core.specs.Run.{run_telling, events_in}
use Rattle.flat_core.specs.Laws.{reached, with_bundles, HoldsInRuns}
use Rattle.flat_core.specs.Inside.{AreTimely}

-- no row tries more locks than its call may, in any world
abbrev pub RowsTryFew : Type 0
RowsTryFew = (o : Opening) (me : ℕ) (c : Call) (w : World) → tries_in ((row_of o me c).items w) ≤ most_tries c

-- a call that tries so many locks at most, enters a guest of so many events at most, and holds so many: the tries to come,
-- the act, the guest's events, and the releases
abbrev pub trying_left : (tries guest held : ℕ) → ℕ
trying_left n k held = 2 * n + 1 + k - held

-- or the undo and the releases
abbrev pub undoing_left : ℕ → ℕ
undoing_left held = held + 1

abbrev pub call_left : (tries guest : ℕ) → Phase Reply → (held : ℕ) → ℕ
call_left n k Trying held = trying_left n k held
call_left n k (Undoing l) held = undoing_left held
call_left n k (Answered r) held = held

-- how many of the five events of its operation a guest has used: of a row the locks that are held tell; of a private access
-- the walk, and that there is a translation
abbrev pub private_used : Option ℕ → Option Walk → ℕ
private_used (Some page) k = 4
private_used None k = 3 - walk_level k

abbrev pub operation_used : Lp → Guest → Operation → ℕ
operation_used lp g (ByRow row) = length g.operation.held
operation_used lp g (Private access r gpa) = private_used (look_up lp.cached g.tdr (page_of_gpa gpa) access) g.walk

abbrev pub due_used : Opening → Lp → Guest → Option GuestOp → ℕ
due_used o lp g None = 0
due_used o lp g (Some op) = operation_used lp g (operation_of o g.tdr g.vp (length lp.replies + 1) op)

abbrev pub phase_used : Opening → World → Lp → Guest → Phase (Option Outcome) → ℕ
phase_used o w lp g Trying = due_used o lp g (operation_due o w g)
phase_used o w lp g (Undoing l) = 4 - length g.operation.held
phase_used o w lp g (Answered out) = 5 - length g.operation.held

-- five for each operation that may still be completed, less those used
abbrev pub guest_left : Opening → World → Lp → Guest → Option Outcome → ℕ
guest_left o w lp g (Some out) = 0
guest_left o w lp g None = operation_events * (g.most - g.completed) - phase_used o w lp g g.operation.phase

-- and the count step, and the releases
abbrev pub line_left : Opening → World → Call → Lp → Option Guest → ℕ
line_left o w c lp None = call_left (most_tries c) (guest_events c) lp.call.phase (length lp.call.held)
line_left o w c lp (Some g) = length lp.call.held + 1 + guest_left o w lp g g.leaving

-- a processor with these lines left
abbrev pub left_of : Opening → World → List Call → Lp → ℕ
left_of o w [] lp = 0
left_of o w (c ∷ cs) lp = line_left o w c lp lp.guest + events_in cs

abbrev pub events_left : Opening → State → ℕ → ℕ
events_left o s p = left_of o s.world (lines_left o p (s.lps p)) (s.lps p)

-- where processors are timely each event of one lowers what it can still make, whatever bundles have come in; and one that
-- can make none has no event left
pub record TimelyEventsRunOut : Type 0 where
  pub lowers : (o : Opening) (bundles : ℕ → Option Incoming) (s : State) (p : ℕ) (e : Event) → let q = with_bundles o bundles in
      AreTimely o s → next_event q s p ≡ Some e → events_left o (event q s p) p < events_left o s p
  pub ended : (o : Opening) (bundles : ℕ → Option Incoming) (s : State) (p : ℕ) → AreTimely o s → events_left o s p ≡ 0 → next_event (with_bundles o bundles) s p ≡ None

-- each event of a processor lowers what it can still make, in every state that a schedule leads to
abbrev pub EventsRunOut : Type 0
EventsRunOut = (o : Opening) (words_to_tell : Option (List ℕ)) (schedule : List ℕ) (p : ℕ) (e : Event)
    → let s = reached o words_to_tell schedule in next_event o s p ≡ Some e → events_left o (event o s p) p < events_left o s p

-- at the end of a run no processor has an event left
abbrev pub RunsEnd : Type 0
RunsEnd = (o : Opening) (words_to_tell : Option (List ℕ)) (schedule : List ℕ) (p : ℕ) → next_event o (run_telling words_to_tell o schedule) p ≡ None

-- the present line of a guest is the VP.ENTER that entered it, and it has completed no more operations than that asks for
pub record IsBounded (o : Opening) (p : ℕ) (lp : Lp) (g : Guest) : Type 0 where
  pub rest : List Call
  pub line : lines_left o p lp ≡ call.VpEnter g.tdr g.vp g.most ∷ rest
  pub few : g.completed ≤ g.most

-- so of every guest that a schedule leads to
abbrev pub EntriesAreBounded : Type 0
EntriesAreBounded = HoldsInRuns (λ o s. (p : ℕ) → IfSome (s.lps p).guest (IsBounded o p (s.lps p)))
