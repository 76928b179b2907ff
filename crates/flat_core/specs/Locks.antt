-- The state of a lock, told from the processors' records: who holds it alone, who shares it and how often, and whose
-- shared try was denied and isn't undone yet (Base Architecture, "Concurrency Restrictions and Enforcement").
use Rattle.std.specs.Prelude.{◌≡◌, ◌⊎◌, ℕ, zero, suc, ◌+◌, ◌≤◌, List, [], ◌∷◌, Option, Some, None, Bool, true, false, ◌==◌, ◌&&◌, not}
use Rattle.td_words.specs.declared.names.Mode.{Mode}
use Rattle.td_words.specs.declared.names.Mode.TheVariants.{Shared, Exclusive}
use Rattle.flat_core.specs.Processor.{LockId, OfPage, OfOp, OfTree, OfEpoch, OfRtmr, OfKeys, Held, Phase, Trying, Undoing, Answered, Guest, Lp}

abbrev pub same_lock : LockId → LockId → Bool
same_lock (OfPage p) (OfPage q) = p == q
same_lock (OfOp p) (OfOp q) = p == q
same_lock (OfTree p) (OfTree q) = p == q
same_lock (OfEpoch p) (OfEpoch q) = p == q
same_lock (OfRtmr p) (OfRtmr q) = p == q
same_lock OfKeys OfKeys = true
same_lock _ _ = false

abbrev pub is_alone : Mode → Bool
is_alone Shared = false
is_alone Exclusive = true

abbrev pub one_if : Bool → ℕ
one_if true = 1
one_if false = 0

-- how often these hold a lock alone, and how often they share it
abbrev pub alone_in : LockId → List Held → ℕ
alone_in l [] = 0
alone_in l (h ∷ hs) = one_if (is_alone h.mode && same_lock h.lock l) + alone_in l hs

abbrev pub shared_in : LockId → List Held → ℕ
shared_in l [] = 0
shared_in l (h ∷ hs) = one_if (not (is_alone h.mode) && same_lock h.lock l) + shared_in l hs

abbrev pub refused_in : {R : Type 0} → LockId → Phase R → ℕ
refused_in l Trying = 0
refused_in l (Undoing k) = one_if (same_lock k l)
refused_in l (Answered r) = 0

-- what a virtual processor in guest holds and waits to undo besides
abbrev pub guest_alone : LockId → Option Guest → ℕ
guest_alone l None = 0
guest_alone l (Some g) = alone_in l g.operation.held

abbrev pub guest_shared : LockId → Option Guest → ℕ
guest_shared l None = 0
guest_shared l (Some g) = shared_in l g.operation.held

abbrev pub guest_refused : LockId → Option Guest → ℕ
guest_refused l None = 0
guest_refused l (Some g) = refused_in l g.operation.phase

-- of one processor: how often it holds a lock alone, shares it, is being refused it
abbrev pub alone_of : LockId → Lp → ℕ
alone_of l lp = alone_in l lp.call.held + guest_alone l lp.guest

abbrev pub shared_of : LockId → Lp → ℕ
shared_of l lp = shared_in l lp.call.held + guest_shared l lp.guest

abbrev pub refused_of : LockId → Lp → ℕ
refused_of l lp = refused_in l lp.call.phase + guest_refused l lp.guest

abbrev pub sum_below : (ℕ → ℕ) → ℕ → ℕ
sum_below g zero = 0
sum_below g (suc n) = g n + sum_below g n

-- of the first n processors together
abbrev pub holders : (ℕ → Lp) → ℕ → LockId → ℕ
holders lps n l = sum_below (λ p. alone_of l (lps p)) n

abbrev pub sharers : (ℕ → Lp) → ℕ → LockId → ℕ
sharers lps n l = sum_below (λ p. shared_of l (lps p)) n

abbrev pub refusals : (ℕ → Lp) → ℕ → LockId → ℕ
refusals lps n l = sum_below (λ p. refused_of l (lps p)) n

-- a shared try is granted where nobody holds the lock alone, an exclusive one where nobody holds it, shares it or is
-- being refused it
abbrev pub grants : (ℕ → Lp) → ℕ → LockId → Mode → Bool
grants lps n l Shared = holders lps n l == 0
grants lps n l Exclusive = holders lps n l + (sharers lps n l + refusals lps n l) == 0

-- nobody holds a lock beside one who holds it alone
pub record IsSole (alone shared : ℕ) : Type 0 where
  pub one : alone ≤ 1
  pub apart : (alone ≡ 0) ⊎ (shared ≡ 0)
