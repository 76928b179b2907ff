-- Nobody holds a lock beside one who holds it alone.
use Rattle.std.proofs.Common.{length, ◌≡◌, refl, sym, subst, ap, ℕ, zero, suc, ◌+◌, ◌<◌, ◌≤◌, List, [], ◌∷◌, Option, Some, None, option_map, Bool, true, false, ◌==◌, arith, inl, inr}
use Rattle.std.proofs.lemmas.Bool.{eqb-true, eqb-false, ne_eqb}
use Rattle.td_words.specs.declared.names.LockName.{LockName}
use Rattle.td_words.specs.declared.names.Mode.{Mode}
use Rattle.td_words.specs.declared.names.Mode.TheVariants.{Shared, Exclusive}
use Rattle.td_words.specs.declared.names.Access.{Access}
use Rattle.td_words.specs.declared.replies.Outcome.{Outcome}
use Rattle.td_words.specs.declared.replies.Reply.{Reply}
use Rattle.flat_core.specs.World.{World, put}
use Rattle.flat_core.specs.Processor.{LockId, OfPage, OfOp, OfTree, OfEpoch, OfRtmr, OfKeys, Held, Phase, Trying, Undoing, Answered, Progress, Guest, Entering, Lp, idle}
use Rattle.flat_core.specs.Locks.{same_lock, alone_in, shared_in, guest_alone, guest_shared, alone_of, shared_of, sum_below, holders, sharers, refusals, grants}
use Rattle.flat_core.specs.Opening.{Opening}
use Rattle.flat_core.specs.Row.{Row, OperationRow, Move, Attempts, Undoes, Refuses, Succeeds, Releases, Rests, after_move, but_newest}
use Rattle.td_words.specs.Packing.{Entry}
use Rattle.flat_core.specs.Guest.{walk_level, walk_step, walked_on, goes_on, walked_entry, answered}
use Rattle.flat_core.specs.Event.{State, Event, OfCall, OfOperation, Walks, Reaches, Leaves, next_event, after_event, lp_after, call_lp, succeeded, settle, settled_guest, settle_operation, operation_guest, call_busy, operation_busy, is_granted}
use Rattle.flat_core.specs.Laws.{with_bundles, IsSole, IsExclusive, ExclusionIsKept, LocksExclude}
use Rattle.flat_core.proofs.Induction.{event_keeps, in_runs}
use Rattle.flat_core.proofs.Tests.{by_test}

-- the lock that a granted try takes
abbrev pub taken_if : Bool → LockId → Mode → List Held
taken_if true l m = record { lock = l; mode = m } ∷ []
taken_if false l m = []

abbrev pub taken : {R : Type 0} → Bool → Move R → List Held
taken b (Attempts l m) = taken_if b l m
taken b _ = []

abbrev pub taken_by : Bool → Event → List Held
taken_by b (OfCall row move) = taken b move
taken_by b (OfOperation row move) = taken b move
taken_by b _ = []

-- a count of a list of held locks: how often it holds one alone, or how often it shares one
module _ (count : List Held → ℕ) (nil : count [] ≡ 0) (tail : (h : Held) (hs : List Held) → count (h ∷ hs) ≡ count (h ∷ []) + count hs) where
  newest_less : (hs : List Held) → count (but_newest hs) ≤ count hs
  newest_less [] = omega arith
  newest_less (h ∷ hs) = omega (arith, tail h hs)

  after_more : {R : Type 0} (busy : LockName → R) (b : Bool) (done : R) (move : Move R) (p : Progress R) → count (after_move busy b done move p).held ≤ count p.held + count (taken b move)
  after_more busy true done (Attempts l m) p = omega (arith, tail (record { lock = l; mode = m }) p.held)
  after_more busy false done (Attempts l Shared) p = omega arith
  after_more busy false done (Attempts l Exclusive) p = omega arith
  after_more busy b done (Undoes l) p = omega arith
  after_more busy b done (Refuses r) p = omega arith
  after_more busy b done Succeeds p = omega arith
  after_more busy b done (Releases h) p = omega (arith, newest_less p.held)
  after_more busy b done Rests p = omega arith

  -- with what a guest holds besides
  abbrev pub guest_count : Option Guest → ℕ
  guest_count None = 0
  guest_count (Some g) = count g.operation.held

  abbrev pub lp_count : Lp → ℕ
  lp_count lp = count lp.call.held + guest_count lp.guest

  settle_less : (phase : Phase Reply) (hs : List Held) (lp : Lp) → lp_count (settle phase hs lp) ≤ lp_count lp
  settle_less (Answered r) [] lp = omega (arith, nil)
  settle_less (Answered r) (h ∷ hs) lp = omega arith
  settle_less Trying hs lp = omega arith
  settle_less (Undoing l) hs lp = omega arith

  settle_operation_less : (phase : Phase (Option Outcome)) (hs : List Held) (g : Guest) → count (settle_operation phase hs g).operation.held ≤ count g.operation.held
  settle_operation_less (Answered None) [] g = omega (arith, nil)
  settle_operation_less (Answered (Some out)) [] g = omega (arith, nil)
  settle_operation_less (Answered None) (h ∷ hs) g = omega arith
  settle_operation_less (Answered (Some out)) (h ∷ hs) g = omega arith
  settle_operation_less Trying hs g = omega arith
  settle_operation_less (Undoing l) hs g = omega arith

  succeeded_less : (w : World) (row : Row) (e : Option Entering) (lp : Lp) → lp_count (succeeded w row e lp) ≤ lp_count lp
  succeeded_less w row None lp = omega arith
  succeeded_less w row (Some e) lp = omega (arith, nil)

  call_more : (w : World) (b : Bool) (row : Row) (move : Move Reply) (lp : Lp) → lp_count (call_lp w b row move lp) ≤ lp_count lp + count (taken b move)
  call_more w b row Succeeds lp = omega (arith, succeeded_less w row row.enters lp)
  call_more w b row (Attempts l m) lp = omega (arith, after_more call_busy b (Rattle.td_words.specs.declared.replies.Reply.TheVariants.Done (row.value w)) (Attempts l m) lp.call)
  call_more w b row (Undoes l) lp = omega arith
  call_more w b row (Refuses r) lp = omega arith
  call_more w b row (Releases h) lp = omega (arith, newest_less lp.call.held)
  call_more w b row Rests lp = omega arith

  operation_more : (w : World) (b : Bool) (row : OperationRow) (move : Move (Option Outcome)) (g : Option Guest) → guest_count (option_map (operation_guest w b row move) g) ≤ guest_count g + count (taken b move)
  operation_more w b row move None = omega arith
  operation_more w b row move (Some g) =
      let p = after_move operation_busy b (row.answer w) move g.operation in
      let g' : Guest = record g { operation = p } in
      omega (arith, after_more operation_busy b (row.answer w) move g.operation, settle_operation_less p.phase p.held g')

  walked_same : (access : Access) (gpa : ℕ) (b : Bool) (level : ℕ) (e : Entry) (g : Guest) → count (walked_on access gpa b level e g).operation.held ≡ count g.operation.held
  walked_same access gpa true zero e g = refl
  walked_same access gpa true (suc level) e g = refl
  walked_same access gpa false level e g = refl

  walk_less : (w : World) (access : Access) (gpa : ℕ) (g : Option Guest) → guest_count (option_map (λ g. settled_guest (walk_step w g access gpa)) g) ≤ guest_count g
  walk_less w access gpa None = omega arith
  walk_less w access gpa (Some g) =
      let x = walk_step w g access gpa in
      let e = walked_entry w g gpa in
      omega (arith, settle_operation_less x.operation.phase x.operation.held x, walked_same access gpa (goes_on access (walk_level g.walk) e) (walk_level g.walk) e g)

  reach_less : (g : Option Guest) → guest_count (option_map (λ g. settled_guest (answered None g)) g) ≤ guest_count g
  reach_less None = omega arith
  reach_less (Some g) = omega (arith, settle_operation_less (Answered None) g.operation.held (answered None g))

  pub event_more : (w : World) (b : Bool) (e : Event) (lp : Lp) → lp_count (lp_after w b e lp) ≤ lp_count lp + count (taken_by b e)
  event_more w b (OfCall row move) lp = let x = call_lp w b row move lp in omega (arith, settle_less x.call.phase x.call.held x, call_more w b row move lp)
  event_more w b (OfOperation row move) lp = omega (arith, operation_more w b row move lp.guest)
  event_more w b (Walks access gpa) lp = omega (arith, walk_less w access gpa lp.guest)
  event_more w b (Reaches t v access r gpa page) lp = omega (arith, reach_less lp.guest)
  event_more w b (Leaves v out) lp = omega (arith, nil)

-- over all processors
pub sum_above : (f : Lp → ℕ) (lps : ℕ → Lp) (p : ℕ) (x : Lp) (n : ℕ) → n ≤ p → sum_below (λ q. f (put lps p x q)) n ≡ sum_below (λ q. f (lps q)) n
sum_above f lps p x zero h = refl
sum_above f lps p x (suc n) h =
    let ne : (n == p) ≡ false = ne_eqb n p (λ e. omega arith) in
    rw ne (ap (λ (k : ℕ). f (lps n) + k) (sum_above f lps p x n (omega arith)))

pub sum_more : (f : Lp → ℕ) (lps : ℕ → Lp) (p : ℕ) (x : Lp) (n d : ℕ) → f x ≤ f (lps p) + d → sum_below (λ q. f (put lps p x q)) n ≤ sum_below (λ q. f (lps q)) n + d
sum_more f lps p x zero d h = omega arith
sum_more f lps p x (suc n) d h = by_test (n == p)
    (λ y. (let here : n ≡ p = eqb-true n p y in
    let above : sum_below (λ q. f (put lps p x q)) n ≡ sum_below (λ q. f (lps q)) n = sum_above f lps p x n (omega arith) in
    let same : f (lps n) ≡ f (lps p) = ap (λ (k : ℕ). f (lps k)) here in
    rw y (omega (arith, above, same, h))))
    (λ y. rw y (omega (arith, sum_more f lps p x n d h)))

pub sum_none : (f : Lp → ℕ) (n : ℕ) → f idle ≡ 0 → sum_below (λ q. f idle) n ≡ 0
sum_none f zero h = refl
sum_none f (suc n) h = omega (arith, h, sum_none f n h)

-- what one processor of n adds to a sum, and what two add
below : (p n : ℕ) → p < suc n → (p == n) ≡ false → p < n
below p n h ne = let d : p ≡ n → ⊥ = eqb-false p n ne in omega (arith, h, d)

pub le-sum : (g : ℕ → ℕ) (p n : ℕ) → p < n → g p ≤ sum_below g n
le-sum g p zero h = absurd (omega (arith, h))
le-sum g p (suc n) h =
    by_test (p == n)
    (λ y. let e : p ≡ n = eqb-true p n y in let k : g p ≡ g n = ap g e in omega (arith, k))
    (λ y. let k : g p ≤ sum_below g n = le-sum g p n (below p n h y) in omega (arith, k))

pub two-sum : (g : ℕ → ℕ) (p q n : ℕ) → p < n → q < n → (p == q) ≡ false → g p + g q ≤ sum_below g n
two-sum g p q zero h k ne = absurd (omega (arith, h))
two-sum g p q (suc n) h k ne =
    by_test (p == n)
    (λ y. (let e : p ≡ n = eqb-true p n y in let d : p ≡ q → ⊥ = eqb-false p q ne in let k' : q < n = omega (arith, e, d, k) in
    let i : g p ≡ g n = ap g e in let j : g q ≤ sum_below g n = le-sum g q n k' in omega (arith, i, j)))
    (λ y. by_test (q == n)
    (λ z. (let e : q ≡ n = eqb-true q n z in let i : g q ≡ g n = ap g e in let j : g p ≤ sum_below g n = le-sum g p n (below p n h y) in omega (arith, i, j)))
    (λ z. (let j : g p + g q ≤ sum_below g n = two-sum g p q n (below p n h y) (below q n k z) ne in omega (arith, j))))

pub same_lock-true : (a b : LockId) → same_lock a b ≡ true → a ≡ b
same_lock-true (OfPage p) (OfPage q) h = ap (λ (n : ℕ). OfPage n) (eqb-true p q h)
same_lock-true (OfOp p) (OfOp q) h = ap (λ (n : ℕ). OfOp n) (eqb-true p q h)
same_lock-true (OfTree p) (OfTree q) h = ap (λ (n : ℕ). OfTree n) (eqb-true p q h)
same_lock-true (OfEpoch p) (OfEpoch q) h = ap (λ (n : ℕ). OfEpoch n) (eqb-true p q h)
same_lock-true (OfRtmr p) (OfRtmr q) h = ap (λ (n : ℕ). OfRtmr n) (eqb-true p q h)
same_lock-true OfKeys OfKeys h = refl
same_lock-true _ _ h = cc

-- a lock's counts after an event, from those before it and the lock that it took
fewer : (a s a' s' : ℕ) → IsSole a s → a' ≤ a → s' ≤ s → IsSole a' s'
fewer a s a' s' h x y = record {
  one = omega (arith, h.one);
  apart = elim h.apart [ inl e ↦ inl (omega arith) | inr e ↦ inr (omega arith) ];
}

abbrev Counts : State → LockId → Type 0
Counts s l = IsSole (holders s.lps s.lp_count l) (sharers s.lps s.lp_count l)

after_shared : (s : State) (k l : LockId) (a' s' : ℕ) → Counts s l → (holders s.lps s.lp_count k == 0) ≡ true
    → a' ≤ holders s.lps s.lp_count l + alone_in l (record { lock = k; mode = Shared } ∷ []) → s' ≤ sharers s.lps s.lp_count l + shared_in l (record { lock = k; mode = Shared } ∷ []) → IsSole a' s'
after_shared s k l a' s' h g x y = by_test (same_lock k l)
    (λ e. (let here : k ≡ l = same_lock-true k l e in
    let none : holders s.lps s.lp_count l ≡ 0 = subst (λ (i : LockId). holders s.lps s.lp_count i ≡ 0) here (eqb-true _ 0 g) in
    record { one = omega (arith, x); apart = inl (omega (arith, x)) }))
    (λ e. fewer _ _ a' s' h (omega (arith, x)) (let z : s' ≤ sharers s.lps s.lp_count l + 0 = rw e at y in omega arith))

after_exclusive : (s : State) (k l : LockId) (a' s' : ℕ) → Counts s l → (holders s.lps s.lp_count k + (sharers s.lps s.lp_count k + refusals s.lps s.lp_count k) == 0) ≡ true
    → a' ≤ holders s.lps s.lp_count l + alone_in l (record { lock = k; mode = Exclusive } ∷ []) → s' ≤ sharers s.lps s.lp_count l + shared_in l (record { lock = k; mode = Exclusive } ∷ []) → IsSole a' s'
after_exclusive s k l a' s' h g x y = by_test (same_lock k l)
    (λ e. (let here : k ≡ l = same_lock-true k l e in
    let none : holders s.lps s.lp_count l + (sharers s.lps s.lp_count l + refusals s.lps s.lp_count l) ≡ 0 = subst (λ (i : LockId). holders s.lps s.lp_count i + (sharers s.lps s.lp_count i + refusals s.lps s.lp_count i) ≡ 0) here (eqb-true _ 0 g) in
    let z : a' ≤ holders s.lps s.lp_count l + 1 = rw e at x in
    record { one = omega arith; apart = inr (omega (arith, y)) }))
    (λ e. fewer _ _ a' s' h (let z : a' ≤ holders s.lps s.lp_count l + 0 = rw e at x in omega arith) (omega (arith, y)))

after_taken : (s : State) (k l : LockId) (m : Mode) (b : Bool) (a' s' : ℕ) → Counts s l → grants s.lps s.lp_count k m ≡ b
    → a' ≤ holders s.lps s.lp_count l + alone_in l (taken_if b k m) → s' ≤ sharers s.lps s.lp_count l + shared_in l (taken_if b k m) → IsSole a' s'
after_taken s k l m false a' s' h g x y = fewer _ _ a' s' h (omega (arith, x)) (omega (arith, y))
after_taken s k l Shared true a' s' h g x y = after_shared s k l a' s' h g x y
after_taken s k l Exclusive true a' s' h g x y = after_exclusive s k l a' s' h g x y

after_moved : (R : Type 0) (s : State) (l : LockId) (e : Move R → Event) (granted : (k : LockId) (m : Mode) → is_granted s (e (Attempts k m)) ≡ grants s.lps s.lp_count k m) (move : Move R) (a' s' : ℕ) → Counts s l
    → a' ≤ holders s.lps s.lp_count l + alone_in l (taken (is_granted s (e move)) move) → s' ≤ sharers s.lps s.lp_count l + shared_in l (taken (is_granted s (e move)) move) → IsSole a' s'
after_moved R s l e granted (Attempts k m) a' s' h x y = after_taken s k l m (is_granted s (e (Attempts k m))) a' s' h (sym (granted k m)) x y
after_moved R s l e granted (Undoes k) a' s' h x y = fewer _ _ a' s' h (omega (arith, x)) (omega (arith, y))
after_moved R s l e granted (Refuses r) a' s' h x y = fewer _ _ a' s' h (omega (arith, x)) (omega (arith, y))
after_moved R s l e granted Succeeds a' s' h x y = fewer _ _ a' s' h (omega (arith, x)) (omega (arith, y))
after_moved R s l e granted (Releases k) a' s' h x y = fewer _ _ a' s' h (omega (arith, x)) (omega (arith, y))
after_moved R s l e granted Rests a' s' h x y = fewer _ _ a' s' h (omega (arith, x)) (omega (arith, y))

after_any : (s : State) (l : LockId) (e : Event) (a' s' : ℕ) → Counts s l
    → a' ≤ holders s.lps s.lp_count l + alone_in l (taken_by (is_granted s e) e) → s' ≤ sharers s.lps s.lp_count l + shared_in l (taken_by (is_granted s e) e) → IsSole a' s'
after_any s l (OfCall row move) a' s' h x y = after_moved Reply s l (λ m. OfCall row m) (λ k m. refl) move a' s' h x y
after_any s l (OfOperation row move) a' s' h x y = after_moved (Option Outcome) s l (λ m. OfOperation row m) (λ k m. refl) move a' s' h x y
after_any s l (Walks access gpa) a' s' h x y = fewer _ _ a' s' h (omega (arith, x)) (omega (arith, y))
after_any s l (Reaches t v access r gpa page) a' s' h x y = fewer _ _ a' s' h (omega (arith, x)) (omega (arith, y))
after_any s l (Leaves v out) a' s' h x y = fewer _ _ a' s' h (omega (arith, x)) (omega (arith, y))

alone_tail : (l : LockId) (h : Held) (hs : List Held) → alone_in l (h ∷ hs) ≡ alone_in l (h ∷ []) + alone_in l hs
alone_tail l h hs = omega arith

shared_tail : (l : LockId) (h : Held) (hs : List Held) → shared_in l (h ∷ hs) ≡ shared_in l (h ∷ []) + shared_in l hs
shared_tail l h hs = omega arith

alone_is : (l : LockId) (lp : Lp) → alone_of l lp ≡ lp_count (alone_in l) refl (alone_tail l) lp
alone_is l lp = by lp.guest
  where
    by : (g : Option Guest) → alone_in l lp.call.held + guest_alone l g ≡ alone_in l lp.call.held + guest_count (alone_in l) refl (alone_tail l) g
    by None = refl
    by (Some g) = refl

shared_is : (l : LockId) (lp : Lp) → shared_of l lp ≡ lp_count (shared_in l) refl (shared_tail l) lp
shared_is l lp = by lp.guest
  where
    by : (g : Option Guest) → shared_in l lp.call.held + guest_shared l g ≡ shared_in l lp.call.held + guest_count (shared_in l) refl (shared_tail l) g
    by None = refl
    by (Some g) = refl

pub exclusive_step : (o : Opening) (s : State) (p : ℕ) (e : Event) → next_event o s p ≡ Some e → IsExclusive s → IsExclusive (after_event p s (Some e))
exclusive_step o s p e eq h l =
    let b = is_granted s e in
    let lp' : Lp = lp_after s.world b e (s.lps p) in
    let alone : alone_of l lp' ≤ alone_of l (s.lps p) + alone_in l (taken_by b e) =
    omega (arith, event_more (alone_in l) refl (alone_tail l) s.world b e (s.lps p), alone_is l lp', alone_is l (s.lps p)) in
    let shared : shared_of l lp' ≤ shared_of l (s.lps p) + shared_in l (taken_by b e) =
    omega (arith, event_more (shared_in l) refl (shared_tail l) s.world b e (s.lps p), shared_is l lp', shared_is l (s.lps p)) in
    after_any s l e _ _ (h l) (sum_more (alone_of l) s.lps p lp' s.lp_count (alone_in l (taken_by b e)) alone) (sum_more (shared_of l) s.lps p lp' s.lp_count (shared_in l (taken_by b e)) shared)

pub exclusion_kept : ExclusionIsKept
exclusion_kept = record {
  start = λ o ws k. (let none : (f : Lp → ℕ) → f idle ≡ 0 → sum_below (λ q. f idle) (length o.calls) ≡ 0 = λ f h. sum_none f (length o.calls) h in
      record { one = omega (arith, none (alone_of k) refl); apart = inl (none (alone_of k) refl) });
  event = λ o bundles s p h. event_keeps (with_bundles o bundles) IsExclusive (exclusive_step (with_bundles o bundles)) s p h;
}

pub locks_exclude : LocksExclude
locks_exclude = in_runs (λ o s. IsExclusive s) exclusion_kept
