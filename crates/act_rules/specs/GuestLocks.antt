-- The locks that a guest's operation holds on its way: the first that its row tries, in their order and modes. The page that
-- `accept` has tried is still the one that its entry names, whatever others do.
use Rattle.std.specs.Prelude.{◌≡◌, ℕ, false, List, ◌∷◌, Option, Some, None, IfSome}
use Rattle.td_words.specs.declared.calls.GuestOp.{GuestOp}
use Rattle.td_words.specs.declared.calls.GuestOp.TheVariants as op
use Rattle.td_words.specs.declared.replies.Outcome.{Outcome}
use Rattle.flat_core.specs.World.{World}
use Rattle.flat_core.specs.Processor.{Held, Phase, Trying, Guest}
use Rattle.flat_core.specs.Opening.{Opening}
use Rattle.flat_core.specs.Tree.{entry_at}
use Rattle.flat_core.specs.Lawful.{is_free}
use Rattle.flat_core.specs.Inside.{AreTimely, held_then}
use Rattle.flat_core.specs.GuestOrder.{operation_tries}
use Rattle.flat_core.specs.Event.{State, operation_due}
use Rattle.flat_core.specs.Laws.{IsKeptInRuns, HoldsInRuns}
use Rattle.act_rules.specs.CallLocks.{CallsHoldApart}

-- the first of its list
abbrev pub HoldsFirst : World → (tdr : ℕ) → GuestOp → List Held → Type 0
HoldsFirst w t op hs = (rest : List Held) × (operation_tries t op w ≡ held_then hs rest)

-- once `accept` has tried its page, its entry isn't FREE
abbrev pub NamesTried : World → (tdr : ℕ) → GuestOp → Type 0
NamesTried w t (op.Accept gpa) = is_free (entry_at w t 0 gpa).state ≡ false
NamesTried w t _ = Unit {0}

abbrev pub IsNamed : World → (tdr : ℕ) → GuestOp → List Held → Type 0
IsNamed w t op (a ∷ b ∷ hs) = NamesTried w t op
IsNamed w t op _ = Unit {0}

-- of the operation that is due, while it is on its way
abbrev pub HoldsDue : World → (tdr : ℕ) → Option GuestOp → List Held → Type 0
HoldsDue w t None hs = Unit {0}
HoldsDue w t (Some op) hs = HoldsFirst w t op hs × IsNamed w t op hs

abbrev pub HoldsIn : Opening → World → Guest → Phase (Option Outcome) → Type 0
HoldsIn o w g Trying = HoldsDue w g.tdr (operation_due o w g) g.operation.held
HoldsIn o w g _ = Unit {0}

abbrev pub HoldsTheirs : Opening → World → Guest → Type 0
HoldsTheirs o w g = HoldsIn o w g g.operation.phase

-- so of each guest, where processors stand as they do in runs
pub record OperationsHoldTheirs (o : Opening) (s : State) : Type 0 where
  pub timely : AreTimely o s
  pub each : (q : ℕ) → IfSome (s.lps q).guest (HoldsTheirs o s.world)

-- and calls hold theirs: one that changes which page an entry names holds T alone, which `accept` shares
pub record AllHoldTheirs (o : Opening) (s : State) : Type 0 where
  pub calls : CallsHoldApart o s
  pub operations : OperationsHoldTheirs o s

abbrev pub OperationLocksAreKept : Type 0
OperationLocksAreKept = IsKeptInRuns AllHoldTheirs

abbrev pub OperationLocksHold : Type 0
OperationLocksHold = HoldsInRuns OperationsHoldTheirs
