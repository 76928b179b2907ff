-- In every state that a run reaches, a lock of a TD is held and tried while P of its TDR page is held, and the locks that
-- are held, being refused or tried stand: those of calls, and those of guests' operations, which are of the TD whose
-- TDR page the VP.ENTER of the guest holds.
use Rattle.std.specs.Prelude.{◌≡◌, ℕ, ◌<◌, List, [], ◌∷◌, length, drop, Option, Some, None}
use Rattle.td_words.specs.declared.names.Mode.{Mode}
use Rattle.td_words.specs.declared.names.Mode.TheVariants.{Shared}
use Rattle.td_words.specs.declared.calls.Call.{Call}
use Rattle.td_words.specs.declared.replies.Reply.{Reply}
use Rattle.flat_core.specs.World.{World}
use Rattle.flat_core.specs.Processor.{LockId, OfPage, OfOp, OfTree, OfEpoch, OfRtmr, OfKeys, Held, Phase, Trying, Undoing, Answered, Lp}
use Rattle.flat_core.specs.Opening.{Opening, Incoming}
use Rattle.flat_core.specs.Row.{Move, Attempts}
use Rattle.flat_core.specs.Tries.{tries_of}
use Rattle.flat_core.specs.Event.{State, Event, OfCall, OfOperation, next_event, calls_of}
use Rattle.flat_core.specs.Inside.{AreTimely}
use Rattle.flat_core.specs.Order.{IsInOrder}
use Rattle.flat_core.specs.Laws.{with_bundles, IsKept, HoldsInRuns}
use Rattle.lock_words.specs.Grips.{HoldsTdr, TdrsAreHeld}
use Rattle.lock_words.specs.LockWords.{Stands, HeldStand, UndoStands, LocksStand}

-- the lock that was taken first, and the one that is tried first
abbrev pub oldest : List Held → Option Held
oldest [] = None
oldest (h ∷ []) = Some h
oldest (h ∷ x ∷ hs) = oldest (x ∷ hs)

abbrev pub first_tried : List Held → Option Held
first_tried [] = None
first_tried (h ∷ hs) = Some h

abbrev pub held_as : ℕ → Mode → Option Held
held_as t m = Some (record { lock = OfPage t; mode = m })

-- a lock of a TD is taken over P of its TDR page, where that was taken first and is shared
abbrev pub IsOver : Option Held → LockId → Type 0
IsOver below (OfPage p) = Unit {0}
IsOver below (OfOp t) = below ≡ held_as t Shared
IsOver below (OfTree t) = below ≡ held_as t Shared
IsOver below (OfEpoch t) = below ≡ held_as t Shared
IsOver below (OfRtmr t) = below ≡ held_as t Shared
IsOver below OfKeys = Unit {0}

abbrev pub AreOver : List Held → Type 0
AreOver [] = Unit {0}
AreOver (h ∷ hs) = IsOver (oldest hs) h.lock × AreOver hs

abbrev pub UndoOver : Phase Reply → List Held → Type 0
UndoOver Trying hs = Unit {0}
UndoOver (Undoing l) hs = IsOver (oldest hs) l
UndoOver (Answered r) hs = Unit {0}

-- what is held, if anything, is held over this
abbrev pub IsFirst : Option Held → List Held → Type 0
IsFirst below [] = Unit {0}
IsFirst below (h ∷ hs) = oldest (h ∷ hs) ≡ below

-- over what the call tries first, in every world, whatever bundles have come in
abbrev pub IsFirstOf : List Call → List Held → Type 0
IsFirstOf [] hs = Unit {0}
IsFirstOf (c ∷ cs) hs = (o : Opening) (w : World) → IsFirst (first_tried (tries_of o c w)) hs

-- a processor with these calls: the locks of a TD that its call holds, and the one that it is being refused, are over P of
-- the TDR page; and on its way a call holds its locks over the one that it tries first, also while its guest is in
pub record IsOverTdrs (calls : List Call) (lp : Lp) : Type 0 where
  pub over : AreOver lp.call.held
  pub undo : UndoOver lp.call.phase lp.call.held
  pub first : lp.call.phase ≡ Trying → IsFirstOf (drop (length lp.replies) calls) lp.call.held

-- its call's locks, and the one that it is being refused, stand
pub record StandIn (w : World) (lp : Lp) : Type 0 where
  pub held : HeldStand w lp.call.held
  pub undo : UndoStands w lp.call.phase

-- so of each processor, where they stand as they do in runs, and hold their locks in order
pub record AreSound (o : Opening) (s : State) : Type 0 where
  pub timely : AreTimely o s
  pub in_order : IsInOrder o s
  pub over : (q : ℕ) → IsOverTdrs (calls_of o.calls q) (s.lps q)
  pub stand : (q : ℕ) → q < s.lp_count → StandIn s.world (s.lps q)

abbrev pub SoundnessIsKept : Type 0
SoundnessIsKept = IsKept AreSound

-- the lock that an event tries
abbrev pub tried_in : {R : Type 0} → Move R → Option LockId
tried_in (Attempts l mode) = Some l
tried_in _ = None

abbrev pub tried_by : Event → Option LockId
tried_by (OfCall row move) = tried_in move
tried_by (OfOperation row move) = tried_in move
tried_by _ = None

-- a lock that a call, or its guest's operation, tries stands; and the call holds what it is tried over, where it is a TD's
abbrev pub TriesStand : Opening → State → Type 0
TriesStand o s = (p : ℕ) (e : Event) (l : LockId) → next_event o s p ≡ Some e → tried_by e ≡ Some l → HoldsTdr (s.lps p).call.held l × Stands s.world l

-- what it comes to: whoever holds, or is being refused, a lock of a TD holds P of its TDR
-- page; the locks that are held, or being refused, stand; and so does each that is tried
pub record SoundStand (o : Opening) (s : State) : Type 0 where
  pub tdrs : TdrsAreHeld s
  pub stand : LocksStand s
  pub tried : TriesStand o s

-- whatever bundles have come in
abbrev pub SoundLocksStand : Type 0
SoundLocksStand = (o : Opening) (bundles : ℕ → Option Incoming) (s : State) → AreSound o s → SoundStand (with_bundles o bundles) s

-- after every schedule
abbrev pub EveryTdrIsHeld : Type 0
EveryTdrIsHeld = HoldsInRuns (λ o s. TdrsAreHeld s)

abbrev pub EveryLockStands : Type 0
EveryLockStands = HoldsInRuns (λ o s. LocksStand s)

abbrev pub EveryTryStands : Type 0
EveryTryStands = HoldsInRuns TriesStand
