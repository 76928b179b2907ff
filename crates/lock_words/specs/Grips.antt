-- What a processor has of the guards: by the locks that it holds, and by its cached translations while a virtual processor
-- is in guest on it.
use Rattle.std.specs.Prelude.{◌≡◌, ℕ, zero, suc, ◌<◌, Bool, true, false, ◌==◌, ◌&&◌, ◌||◌, not, Option, Some, None, List, [], ◌∷◌, ◌++◌}
use Rattle.td_words.specs.declared.replies.Reply.{Reply}
use Rattle.std.specs.List.{list_any}
use Rattle.flat_core.specs.Processor.{LockId, OfPage, OfOp, OfTree, OfEpoch, OfRtmr, OfKeys, Held, Phase, Trying, Undoing, Answered, Progress, Translation, Guest, Lp}
use Rattle.flat_core.specs.Locks.{same_lock, is_alone}
use Rattle.flat_core.specs.Opening.{Opening}
use Rattle.flat_core.specs.Event.{State}
use Rattle.flat_core.specs.Laws.{reached}
pub use Rattle.flat_core.specs.Laws.{IsExclusive}
use Rattle.word_rules.specs.Guards.{Guard, Locked, Reached, Written, Grip, HasWhatIsSole, Apart}

abbrev pub holds : List Held → LockId → Bool
holds hs l = list_any (λ h. same_lock h.lock l) hs

abbrev pub holds_alone : List Held → LockId → Bool
holds_alone hs l = list_any (λ h. is_alone h.mode && same_lock h.lock l) hs

-- the locks of its call, and those of its guest's operation
abbrev pub operation_locks : Option Guest → List Held
operation_locks None = []
operation_locks (Some g) = g.operation.held

abbrev pub locks_of : Lp → List Held
locks_of lp = lp.call.held ++ operation_locks lp.guest

-- a usable translation is one of the TD in guest
abbrev pub is_usable_at : ℕ → ℕ → Bool → Translation → Bool
is_usable_at t p must_write c = c.tdr == t && (c.page == p && (not must_write || c.may_write))

abbrev pub reaches_as : Option Guest → ℕ → Bool → List Translation → Bool
reaches_as None p must_write cs = false
reaches_as (Some g) p must_write cs = list_any (is_usable_at g.tdr p must_write) cs

abbrev pub reaches : Lp → ℕ → Bool → Bool
reaches lp p must_write = reaches_as lp.guest p must_write lp.cached

-- of the first n processors nobody but this one reaches the page
abbrev pub none_reaches : (ℕ → Lp) → ℕ → ℕ → ℕ → Bool → Bool
none_reaches lps zero me p must_write = true
none_reaches lps (suc n) me p must_write = (n == me || not (reaches (lps n) p must_write)) && none_reaches lps n me p must_write

abbrev pub has_of : Lp → List Held → Guard → Bool
has_of lp hs (Locked l) = holds hs l
has_of lp hs (Reached p) = reaches lp p false
has_of lp hs (Written p) = reaches lp p true

abbrev pub sole_of : List Held → Guard → Bool
sole_of hs (Locked l) = holds_alone hs l
sole_of hs (Reached p) = false
sole_of hs (Written p) = false

abbrev pub clear_of : State → ℕ → Guard → Bool
clear_of s me (Locked l) = false
clear_of s me (Reached p) = none_reaches s.lps s.lp_count me p false
clear_of s me (Written p) = none_reaches s.lps s.lp_count me p true

-- the grip of a processor, with these locks of its own
abbrev pub grip_with : State → ℕ → List Held → Grip
grip_with s me hs = record { has = has_of (s.lps me) hs; sole = sole_of hs; clear = clear_of s me }

-- the grip that locks alone give, whoever is in guest: what is told, filled or owed under it waits for no guest
abbrev pub lock_has : List Held → Guard → Bool
lock_has hs (Locked l) = holds hs l
lock_has hs (Reached p) = false
lock_has hs (Written p) = false

abbrev pub lock_grip : List Held → Grip
lock_grip hs = record { has = lock_has hs; sole = sole_of hs; clear = λ x. false }

abbrev pub grip_of : State → ℕ → Grip
grip_of s me = grip_with s me (locks_of (s.lps me))

-- The grips of two processors are apart where locks exclude, as they do in every state of every run.
abbrev pub GripsAreApart : Type 0
GripsAreApart = (s : State) (p q : ℕ) → IsExclusive s → p < s.lp_count → q < s.lp_count → (p == q) ≡ false → Apart (grip_of s p) (grip_of s q)

-- what it has alone it has
abbrev pub GripsAreWhole : Type 0
GripsAreWhole = (s : State) (me : ℕ) (hs : List Held) → HasWhatIsSole (grip_with s me hs)

abbrev pub GripsStayApart : Type 0
GripsStayApart = (o : Opening) (words_to_tell : Option (List ℕ)) (schedule : List ℕ) (p q : ℕ)
    → let s = reached o words_to_tell schedule in p < s.lp_count → q < s.lp_count → (p == q) ≡ false → Apart (grip_of s p) (grip_of s q)

-- a lock of a TD is tried, and held, while P of its TDR page is held
abbrev pub HoldsTdr : List Held → LockId → Type 0
HoldsTdr hs (OfPage p) = Unit {0}
HoldsTdr hs (OfOp t) = holds hs (OfPage t) ≡ true
HoldsTdr hs (OfTree t) = holds hs (OfPage t) ≡ true
HoldsTdr hs (OfEpoch t) = holds hs (OfPage t) ≡ true
HoldsTdr hs (OfRtmr t) = holds hs (OfPage t) ≡ true
HoldsTdr hs OfKeys = Unit {0}

-- each lock held, over the older ones
abbrev pub HoldTdrs : List Held → Type 0
HoldTdrs [] = Unit {0}
HoldTdrs (h ∷ hs) = HoldsTdr hs h.lock × HoldTdrs hs

-- and the lock of a shared try that was denied
abbrev pub UndoTdr : {R : Type 0} → Phase R → List Held → Type 0
UndoTdr Trying hs = Unit {0}
UndoTdr (Undoing l) hs = HoldsTdr hs l
UndoTdr (Answered r) hs = Unit {0}

-- of a call, and of its guest's operation
abbrev pub CallTdrs : Progress Reply → Type 0
CallTdrs c = HoldTdrs c.held × UndoTdr c.phase c.held

abbrev pub GuestTdrs : List Held → Option Guest → Type 0
GuestTdrs hs None = Unit {0}
GuestTdrs hs (Some g) = HoldTdrs (g.operation.held ++ hs) × UndoTdr g.operation.phase (g.operation.held ++ hs)

-- whoever holds, or is being refused, a lock of a TD holds P of its TDR page
abbrev pub TdrsAreHeld : State → Type 0
TdrsAreHeld s = (q : ℕ) → CallTdrs (s.lps q).call × GuestTdrs (s.lps q).call.held (s.lps q).guest
