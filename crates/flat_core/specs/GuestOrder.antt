-- What a guest's operation tries, and the order in which it holds its locks: the first that it tries.
use Rattle.std.specs.Prelude.{◌≡◌, ℕ, zero, suc, List, [], ◌∷◌, Option, Some, None, IfSome, if◌then◌else◌, slice_get}
use Rattle.td_words.specs.declared.calls.GuestOp.{GuestOp}
use Rattle.td_words.specs.declared.calls.GuestOp.TheVariants as op
use Rattle.td_words.specs.declared.replies.Outcome.{Outcome}
use Rattle.td_words.specs.declared.replies.Outcome.TheVariants.{Vmcall}
use Rattle.flat_core.specs.World.{World}
use Rattle.flat_core.specs.Processor.{LockId, OfPage, OfTree, OfRtmr, Held, Phase, Trying, Undoing, Answered, Guest}
use Rattle.flat_core.specs.Opening.{Opening}
use Rattle.flat_core.specs.Tree.{entry_at}
use Rattle.flat_core.specs.Tries.{tries, shared, alone}
use Rattle.flat_core.specs.Guest.{Operation, ByRow, Private, operation_of, is_private, shared_page}
use Rattle.flat_core.specs.Event.{State, operation_due}
use Rattle.flat_core.specs.Inside.{AreTimely}
use Rattle.flat_core.specs.Order.{kinds, onto}
use Rattle.flat_core.specs.Laws.{IsKept, HoldsInRuns}

-- an access to a shared page tries that page
abbrev pub access_tries : (gpa : ℕ) → List Held
access_tries gpa = if is_private gpa then [] else shared (OfPage (shared_page gpa)) ∷ []

-- The table of tries of a guest's operations, a line an operation. Only `accept` looks at the world: it tries the page that
-- the entry names.
abbrev pub operation_tries : (tdr : ℕ) → GuestOp → World → List Held
operation_tries t (op.Set r x) w = []
operation_tries t (op.Secret r k) w = []
operation_tries t (op.Add r s) w = []
operation_tries t (op.Load r gpa) w = access_tries gpa
operation_tries t (op.Store r gpa) w = access_tries gpa
operation_tries t (op.Accept gpa) w = shared (OfTree t) ∷ alone (OfPage (entry_at w t 0 gpa).page) ∷ []
operation_tries t (op.Rtmr i) w = alone (OfRtmr t) ∷ []
operation_tries t op.Report w = shared (OfRtmr t) ∷ []
operation_tries t (op.Vmcall r) w = []

-- what an operation tries where it goes by a row
abbrev pub tried_by : Operation → World → List Held
tried_by (ByRow row) w = tries (row.items w)
tried_by (Private access r gpa) w = []

-- each operation tries just what its line says
abbrev pub OperationsTryTheirLists : Type 0
OperationsTryTheirLists = (o : Opening) (t v line : ℕ) (op : GuestOp) (w : World) → tried_by (operation_of o t v line op) w ≡ operation_tries t op w

-- in every world the operation tries these first
abbrev pub AreFirstOf : (tdr : ℕ) → GuestOp → List Held → Type 0
AreFirstOf t op hs = (w : World) → (rest : List (Option LockId)) × (kinds (operation_tries t op w) ≡ onto hs rest)

-- the locks of the operation that is due; none is where there is none
abbrev pub DueHolds : (tdr : ℕ) → Option GuestOp → List Held → Type 0
DueHolds t None hs = hs ≡ []
DueHolds t (Some op) hs = AreFirstOf t op hs

-- the operation of a list that an answer is of, with the position as it is by then: one that was completed stands before it,
-- and any other is still due
abbrev pub operation_before : List GuestOp → (position : ℕ) → Option GuestOp
operation_before code zero = None
operation_before code (suc i) = slice_get code i

abbrev pub operation_answered : List GuestOp → (position : ℕ) → Option Outcome → Option GuestOp
operation_answered code i None = operation_before code i
operation_answered code i (Some (Vmcall word)) = operation_before code i
operation_answered code i (Some out) = slice_get code i

-- those of a guest: of the operation that is due, with the lock that it is being refused; or of the one that is answered
abbrev pub GuestHolds : Opening → World → Guest → Phase (Option Outcome) → Type 0
GuestHolds o w g Trying = DueHolds g.tdr (operation_due o w g) g.operation.held
GuestHolds o w g (Undoing l) = DueHolds g.tdr (operation_due o w g) (shared l ∷ g.operation.held)
GuestHolds o w g (Answered out) = DueHolds g.tdr (operation_answered (o.codes g.tdr (w.vps.indexes g.vp)) (w.vps.positions g.vp) out) g.operation.held

-- so of each guest, where processors stand as they do in runs
pub record GuestsHoldInOrder (o : Opening) (s : State) : Type 0 where
  pub timely : AreTimely o s
  pub each : (q : ℕ) → IfSome (s.lps q).guest (λ g. GuestHolds o s.world g g.operation.phase)

abbrev pub GuestOrderIsKept : Type 0
GuestOrderIsKept = IsKept GuestsHoldInOrder

abbrev pub GuestOrderHolds : Type 0
GuestOrderHolds = HoldsInRuns GuestsHoldInOrder
