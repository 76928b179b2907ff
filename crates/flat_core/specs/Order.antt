-- The order in which locks are held: a call's locks are the first that it tries, and a guest's come behind those of its call.
use Rattle.std.specs.Prelude.{◌≡◌, ◌≢◌, ◌⊎◌, ℕ, ◌≤◌, List, [], ◌∷◌, ◌++◌, length, drop, Option, Some, None, true}
use Rattle.td_words.specs.declared.names.Mode.{Mode}
use Rattle.td_words.specs.declared.calls.Call.{Call}
use Rattle.td_words.specs.declared.calls.Call.TheVariants as call
use Rattle.flat_core.specs.World.{World}
use Rattle.flat_core.specs.Processor.{LockId, OfPage, OfOp, OfTree, OfRtmr, Held, Phase, Trying, Undoing, nothing_yet, Guest, Lp}
use Rattle.flat_core.specs.Locks.{alone_of, shared_of, refused_of, grants}
use Rattle.flat_core.specs.Opening.{Opening, Incoming}
use Rattle.flat_core.specs.Row.{Row, Attempts}
use Rattle.flat_core.specs.Tries.{shared, tries_of}
use Rattle.flat_core.specs.Event.{State, OfCall, next_event, calls_of}
use Rattle.flat_core.specs.Guests.{guest_locks, entry_locks}
use Rattle.flat_core.specs.Laws.{with_bundles, IsKept, IsExclusive, HoldsInRuns}

-- a lock, but not which page's, since that may change with the world
abbrev pub but_page : LockId → Option LockId
but_page (OfPage p) = None
but_page l = Some l

abbrev pub kinds : List Held → List (Option LockId)
kinds [] = []
kinds (h ∷ hs) = but_page h.lock ∷ kinds hs

-- these locks, the newest first, turned to the order in which they were tried, and then those
abbrev pub onto : List Held → List (Option LockId) → List (Option LockId)
onto [] xs = xs
onto (h ∷ hs) xs = onto hs (but_page h.lock ∷ xs)

-- in every world, whatever bundles have come in, the call tries these first
abbrev pub AreFirstTries : Call → List Held → Type 0
AreFirstTries c hs = (o : Opening) (w : World) → (rest : List (Option LockId)) × (kinds (tries_of o c w) ≡ onto hs rest)

-- the lock of a shared try that was denied
abbrev pub undo_of : {R : Type 0} → Phase R → List Held
undo_of (Undoing l) = shared l ∷ []
undo_of _ = []

-- a guest's operation tries pages, and the tree lock and the RTMR lock of its own TD
abbrev pub IsOfGuest : (tdr : ℕ) → LockId → Type 0
IsOfGuest t (OfPage p) = Unit {0}
IsOfGuest t (OfTree u) = u ≡ t
IsOfGuest t (OfRtmr u) = u ≡ t
IsOfGuest t _ = ⊥

abbrev pub AreOfGuest : (tdr : ℕ) → List Held → Type 0
AreOfGuest t [] = Unit {0}
AreOfGuest t (h ∷ hs) = IsOfGuest t h.lock × AreOfGuest t hs

-- in guest a call holds what VP.ENTER leaves its guest, or E of its TD besides; and the operation has locks of its own
pub record IsOrderlyInside (c : Call) (lp : Lp) (g : Guest) : Type 0 where
  pub entered : c ≡ call.VpEnter g.tdr g.vp g.most
  pub trying : lp.call.phase ≡ Trying
  pub locks : (kinds lp.call.held ≡ kinds (guest_locks g.tdr g.vp)) ⊎ (kinds lp.call.held ≡ kinds (entry_locks g.tdr g.vp))
  pub operation : AreOfGuest g.tdr (undo_of g.operation.phase ++ g.operation.held)

-- outside guests what a call holds, with what it is being refused, it tries first
abbrev pub IsOrderlyIn : Call → Lp → Option Guest → Type 0
IsOrderlyIn c lp None = AreFirstTries c (undo_of lp.call.phase ++ lp.call.held)
IsOrderlyIn c lp (Some g) = IsOrderlyInside c lp g

abbrev pub IsOrderlyAt : List Call → Lp → Type 0
IsOrderlyAt [] lp = (lp.guest ≡ None) × (lp.call ≡ nothing_yet)
IsOrderlyAt (c ∷ cs) lp = IsOrderlyIn c lp lp.guest

-- so of a processor with these calls
abbrev pub IsOrderly : List Call → Lp → Type 0
IsOrderly calls lp = IsOrderlyAt (drop (length lp.replies) calls) lp

-- so of each processor of the machine; and locks exclude
pub record IsInOrder (o : Opening) (s : State) : Type 0 where
  pub orderly : (q : ℕ) → IsOrderly (calls_of o.calls q) (s.lps q)
  pub exclusive : IsExclusive s
  pub count : s.lp_count ≡ length o.calls

abbrev pub OrderIsKept : Type 0
OrderIsKept = IsKept IsInOrder

-- a processor that has nothing to do with a lock: it neither holds it nor is being refused it
pub record IsAway (l : LockId) (lp : Lp) : Type 0 where
  pub alone : alone_of l lp ≡ 0
  pub shared : shared_of l lp ≡ 0
  pub refused : refused_of l lp ≡ 0

-- The tree lock of a TD can't be busy for a processor that holds the TD's op state lock alone: every other processor is
-- away from it, and the try of it by that processor is granted in either mode.
pub record IsTreeFree (o : Opening) (s : State) : Type 0 where
  pub others : (t p q : ℕ) → 1 ≤ alone_of (OfOp t) (s.lps p) → q ≢ p → IsAway (OfTree t) (s.lps q)
  pub granted : (t p : ℕ) (row : Row) (mode : Mode) → 1 ≤ alone_of (OfOp t) (s.lps p) → next_event o s p ≡ Some (OfCall row (Attempts (OfTree t) mode))
      → grants s.lps s.lp_count (OfTree t) mode ≡ true

-- where locks are held in order, whatever bundles have come in
abbrev pub TreeIsFreeInOrder : Type 0
TreeIsFreeInOrder = (o : Opening) (bundles : ℕ → Option Incoming) (s : State) → IsInOrder o s → IsTreeFree (with_bundles o bundles) s

abbrev pub TreeIsNeverBusy : Type 0
TreeIsNeverBusy = HoldsInRuns IsTreeFree
