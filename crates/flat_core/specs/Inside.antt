-- Where a processor stands in its call lines: between two calls, in a call, or in the guest that its VP.ENTER entered.
use Rattle.std.specs.Prelude.{◌≡◌, ◌⊎◌, ℕ, ◌+◌, ◌<◌, ◌≤◌, List, [], ◌∷◌, length, drop, Option, Some, None}
use Rattle.td_words.specs.declared.calls.Call.{Call}
use Rattle.td_words.specs.declared.calls.Call.TheVariants as call
use Rattle.td_words.specs.declared.calls.GuestOp.{GuestOp}
use Rattle.td_words.specs.declared.replies.Outcome.{Outcome}
use Rattle.td_words.specs.declared.replies.Reply.{Reply}
use Rattle.flat_core.specs.World.{World}
use Rattle.flat_core.specs.Processor.{LockId, Held, Phase, Trying, Undoing, Answered, Walk, Guest, new_guest, nothing_yet, Lp}
use Rattle.flat_core.specs.Locks.{holders, sharers, IsSole}
use Rattle.flat_core.specs.Opening.{Opening}
use Rattle.flat_core.specs.Table.{most_tries}
use Rattle.flat_core.specs.Tries.{enter_tries, pause_tries}
use Rattle.flat_core.specs.Tree.{page_of_gpa}
use Rattle.flat_core.specs.Guest.{Operation, ByRow, Private, operation_of, walk_level}
use Rattle.flat_core.specs.Event.{State, operation_due, calls_of}
use Rattle.flat_core.specs.Lawful.{Lawful}
use Rattle.flat_core.specs.Guests.{IsOccupied, guest_locks, entry_locks}

-- a walk is of the GPA page of the operation that is due
abbrev pub WalkFits : Option Walk → ℕ → Type 0
WalkFits None gpa = Unit {0}
WalkFits (Some k) gpa = k.gpa_page ≡ page_of_gpa gpa

-- how far an operation is: one that goes by a row holds two locks at most, and none once as many operations as were asked
-- for are completed; a private access holds none, and is at one of the four levels of its walk
abbrev pub OperationAt : Guest → Operation → Type 0
OperationAt g (ByRow row) = (length g.operation.held ≤ 2) × (1 ≤ length g.operation.held → g.completed < g.most)
OperationAt g (Private access r gpa) = (g.operation.held ≡ []) × (walk_level g.walk ≤ 3) × WalkFits g.walk gpa

abbrev pub DueAt : Opening → Lp → Guest → Option GuestOp → Type 0
DueAt o lp g None = g.operation.held ≡ []
DueAt o lp g (Some op) = OperationAt g (operation_of o g.tdr g.vp (length lp.replies + 1) op)

abbrev pub PhaseAt : Opening → World → Lp → Guest → Phase (Option Outcome) → Type 0
PhaseAt o w lp g Trying = DueAt o lp g (operation_due o w g)
PhaseAt o w lp g (Undoing l) = (length g.operation.held ≤ 1) × (g.completed < g.most)
PhaseAt o w lp g (Answered out) = (1 ≤ length g.operation.held) × (length g.operation.held ≤ 2) × (g.completed < g.most)

-- a guest that is to be left has done with its operation
abbrev pub GuestAt : Opening → World → Lp → Guest → Option Outcome → Type 0
GuestAt o w lp g (Some out) = g.operation ≡ nothing_yet
GuestAt o w lp g None = PhaseAt o w lp g g.operation.phase

-- a guest on processor p: its present line entered it, under the locks that VP.ENTER leaves it, or with E still to be given
-- back before its first operation
pub record InGuest (o : Opening) (w : World) (p : ℕ) (c : Call) (lp : Lp) (g : Guest) : Type 0 where
  pub entered : c ≡ call.VpEnter g.tdr g.vp g.most
  pub trying : lp.call.phase ≡ Trying
  pub locks : (lp.call.held ≡ guest_locks g.tdr g.vp) ⊎ ((lp.call.held ≡ entry_locks g.tdr g.vp) × (g ≡ new_guest (record { tdr = g.tdr; vp = g.vp; most = g.most })))
  pub occupied : IsOccupied w p g.tdr g.vp
  pub few : g.completed ≤ g.most
  pub operation : GuestAt o w lp g g.leaving

-- a call that is answered holds something, else it would be done
abbrev pub IsNotDone : Phase Reply → List Held → Type 0
IsNotDone (Answered r) [] = ⊥
IsNotDone _ hs = Unit {0}

-- the locks held, in the order in which they were tried, and then these
abbrev pub held_then : List Held → List Held → List Held
held_then [] xs = xs
held_then (h ∷ hs) xs = held_then hs (h ∷ xs)

-- before their acts VP.ENTER and EXPORT.PAUSE hold the locks that they try first
abbrev pub LocksFit : Call → Phase Reply → List Held → Type 0
LocksFit (call.VpEnter tdr vp max) Trying hs = (rest : List Held) × (enter_tries tdr vp ≡ held_then hs rest)
LocksFit (call.ExportPause tdr) Trying hs = (rest : List Held) × (pause_tries tdr ≡ held_then hs rest)
LocksFit _ _ hs = Unit {0}

-- a call line: outside guests it holds no more locks than its call may try
abbrev pub LineAt : Opening → World → ℕ → Call → Lp → Option Guest → Type 0
LineAt o w p c lp None = (length lp.call.held ≤ most_tries c) × IsNotDone lp.call.phase lp.call.held × LocksFit c lp.call.phase lp.call.held
LineAt o w p c lp (Some g) = InGuest o w p c lp g

abbrev pub StandsAt : Opening → World → ℕ → List Call → Lp → Type 0
StandsAt o w p [] lp = (lp.guest ≡ None) × (lp.call ≡ nothing_yet)
StandsAt o w p (c ∷ cs) lp = LineAt o w p c lp lp.guest

-- a processor with these calls
abbrev pub IsTimely : Opening → World → ℕ → List Call → Lp → Type 0
IsTimely o w p calls lp = StandsAt o w p (drop (length lp.replies) calls) lp

-- nobody holds a lock beside one who holds it alone
abbrev pub IsExclusive : State → Type 0
IsExclusive s = (l : LockId) → IsSole (holders s.lps s.lp_count l) (sharers s.lps s.lp_count l)

-- the world is lawful, each processor stands so, and locks exclude
pub record AreTimely (o : Opening) (s : State) : Type 0 where
  pub lawful : Lawful o.machine s.world
  pub exclusive : IsExclusive s
  pub count : s.lp_count ≡ length o.calls
  pub each : (q : ℕ) → IsTimely o s.world q (calls_of o.calls q) (s.lps q)
