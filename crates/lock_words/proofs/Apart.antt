-- The grips of two processors are apart, since locks exclude.
use Rattle.std.proofs.Common.{◌≡◌, refl, sym, ◌∙◌, subst, inl, inr, ℕ, zero, suc, ◌+◌, ◌<◌, ◌≤◌, Bool, true, false, ◌==◌, ◌&&◌, ◌||◌, not, List, [], ◌∷◌, ◌++◌, arith}
use Rattle.std.specs.Prelude.{Option, Some, None}
use Rattle.std.proofs.lemmas.Bool.{eq-eqb, eqb-true, eqb-false, or_cases, and_parts}
use Rattle.flat_core.specs.Processor.{LockId, Held, Guest, Lp}
use Rattle.flat_core.specs.Locks.{same_lock, is_alone, one_if, alone_in, shared_in, alone_of, shared_of, guest_alone, guest_shared, holders, sharers}
use Rattle.flat_core.specs.Event.{State}
use Rattle.flat_core.specs.Laws.{IsSole}
use Rattle.flat_core.proofs.Tests.{by_test}
use Rattle.word_rules.specs.Guards.{Guard, Locked, Reached, Written, Parted}
use Rattle.lock_words.specs.Grips.{holds, holds_alone, operation_locks, locks_of, reaches, none_reaches, has_of, sole_of, clear_of, grip_of, IsExclusive, GripsAreApart, GripsAreWhole}
use Rattle.flat_core.proofs.LockLaw.{le-sum, two-sum}

alone-more : (l : LockId) (a b : List Held) → alone_in l (a ++ b) ≡ alone_in l a + alone_in l b
alone-more l [] b = omega arith
alone-more l (h ∷ a) b = let e = alone-more l a b in omega (arith, e)

shared-more : (l : LockId) (a b : List Held) → shared_in l (a ++ b) ≡ shared_in l a + shared_in l b
shared-more l [] b = omega arith
shared-more l (h ∷ a) b = let e = shared-more l a b in omega (arith, e)

of-guest : (l : LockId) (g : Option Guest) → (guest_alone l g ≡ alone_in l (operation_locks g)) × (guest_shared l g ≡ shared_in l (operation_locks g))
of-guest l None = (refl, refl)
of-guest l (Some g) = (refl, refl)

counted-alone : (l : LockId) (hs : List Held) → holds_alone hs l ≡ true → 1 ≤ alone_in l hs
counted-alone l [] h = cc
counted-alone l (x ∷ hs) h =
    elim (or_cases (is_alone x.mode && same_lock x.lock l) _ h) [
      | inl y ↦ (let k : one_if (is_alone x.mode && same_lock x.lock l) ≡ 1 = rw y refl in omega (arith, k))
      | inr y ↦ (let k = counted-alone l hs y in omega (arith, k))
    ]

either-mode : (a b : Bool) → b ≡ true → one_if (a && b) + one_if (not a && b) ≡ 1
either-mode true b h = rw h refl
either-mode false b h = rw h refl

counted : (l : LockId) (hs : List Held) → holds hs l ≡ true → 1 ≤ alone_in l hs + shared_in l hs
counted l [] h = cc
counted l (x ∷ hs) h =
    elim (or_cases (same_lock x.lock l) _ h) [
      | inl y ↦ (let k = either-mode (is_alone x.mode) (same_lock x.lock l) y in omega (arith, k))
      | inr y ↦ (let k = counted l hs y in omega (arith, k))
    ]

alone-of : (l : LockId) (lp : Lp) → alone_in l (locks_of lp) ≡ alone_of l lp
alone-of l lp = let a = alone-more l lp.call.held (operation_locks lp.guest) in let b = (of-guest l lp.guest).0 in omega (arith, a, b)

shared-of : (l : LockId) (lp : Lp) → shared_in l (locks_of lp) ≡ shared_of l lp
shared-of l lp = let a = shared-more l lp.call.held (operation_locks lp.guest) in let b = (of-guest l lp.guest).1 in omega (arith, a, b)

-- of one lock
never : (a1 a2 s2 hold share : ℕ) → IsSole hold share → a1 + a2 ≤ hold → s2 ≤ share → 1 ≤ a1 → 1 ≤ a2 + s2 → ⊥
never a1 a2 s2 hold share x h k p q =
    elim x.apart [ inl e ↦ (let o = x.one in omega (arith, o, h, k, p, q, e)) | inr e ↦ (let o = x.one in omega (arith, o, h, k, p, q, e)) ]

locks-part : (s : State) (p q : ℕ) (l : LockId) → IsExclusive s → p < s.lp_count → q < s.lp_count → (p == q) ≡ false
    → holds_alone (locks_of (s.lps p)) l ≡ true → 1 ≤ alone_of l (s.lps q) + shared_of l (s.lps q) → ⊥
locks-part s p q l x hp hq ne a b =
    let two = two-sum (λ r. alone_of l (s.lps r)) p q s.lp_count hp hq ne in
    let one = le-sum (λ r. shared_of l (s.lps r)) q s.lp_count hq in
    let c : 1 ≤ alone_of l (s.lps p) = subst (λ (z : ℕ). 1 ≤ z) (alone-of l (s.lps p)) (counted-alone l (locks_of (s.lps p)) a) in
    never (alone_of l (s.lps p)) (alone_of l (s.lps q)) (shared_of l (s.lps q)) (holders s.lps s.lp_count l) (sharers s.lps s.lp_count l) (x l) two one c b

has-count : (lp : Lp) (l : LockId) → holds (locks_of lp) l ≡ true → 1 ≤ alone_of l lp + shared_of l lp
has-count lp l h = let c = counted l (locks_of lp) h in let a = alone-of l lp in let b = shared-of l lp in omega (arith, a, b, c)

sole-count : (lp : Lp) (l : LockId) → holds_alone (locks_of lp) l ≡ true → 1 ≤ alone_of l lp + shared_of l lp
sole-count lp l h = let c = counted-alone l (locks_of lp) h in let a = alone-of l lp in omega (arith, a, c)

no-reach : (s : State) (n me q p : ℕ) (w : Bool) → q < n → (q == me) ≡ false → none_reaches s.lps n me p w ≡ true → reaches (s.lps q) p w ≡ true → ⊥
no-reach s zero me q p w h ne e r = absurd (omega (arith, h))
no-reach s (suc n) me q p w h ne e r =
    by_test (q == n)
    (λ y. (let is : q ≡ n = eqb-true q n y in
    let nm : (n == me) ≡ false = subst (λ (z : ℕ). (z == me) ≡ false) is ne in
    let rn : reaches (s.lps n) p w ≡ true = subst (λ (z : ℕ). reaches (s.lps z) p w ≡ true) is r in
    let bad : (false || not true) ≡ true = rw (nm, rn) at (and_parts (n == me || not (reaches (s.lps n) p w)) _ e).0 in cc))
    (λ y. (let d : q ≡ n → ⊥ = eqb-false q n y in let lt : q < n = omega (arith, h, d) in no-reach s n me q p w lt ne (and_parts (n == me || not (reaches (s.lps n) p w)) _ e).1 r))

parted : (s : State) (p q : ℕ) → IsExclusive s → p < s.lp_count → q < s.lp_count → (p == q) ≡ false → (q == p) ≡ false → Parted (grip_of s p) (grip_of s q)
parted s p q x hp hq ne en = record { sole = sole; both = both; clear = clear }
  where
    sole : (y : Guard) → sole_of (locks_of (s.lps p)) y ≡ true → has_of (s.lps q) (locks_of (s.lps q)) y ≡ true → ⊥
    sole (Locked l) a b = locks-part s p q l x hp hq ne a (has-count (s.lps q) l b)
    sole (Reached r) a b = cc
    sole (Written r) a b = cc

    both : (y : Guard) → sole_of (locks_of (s.lps p)) y ≡ true → sole_of (locks_of (s.lps q)) y ≡ true → ⊥
    both (Locked l) a b = locks-part s p q l x hp hq ne a (sole-count (s.lps q) l b)
    both (Reached r) a b = cc
    both (Written r) a b = cc

    clear : (y : Guard) → clear_of s p y ≡ true → has_of (s.lps q) (locks_of (s.lps q)) y ≡ true → ⊥
    clear (Locked l) a b = cc
    clear (Reached r) a b = no-reach s s.lp_count p q r false hq en a b
    clear (Written r) a b = no-reach s s.lp_count p q r true hq en a b

flip : (p q : ℕ) → (p == q) ≡ false → (q == p) ≡ false
flip p q h = by_test (q == p) (λ y. (let e : q ≡ p = eqb-true q p y in let bad : (p == q) ≡ true = eq-eqb p q (sym e) in let t : true ≡ false = sym bad ∙ h in cc)) (λ y. y)

pub grips-apart : GripsAreApart
grips-apart s p q x hp hq ne = record { there = parted s p q x hp hq ne (flip p q ne); back = parted s q p x hq hp (flip p q ne) ne }

alone-held : (l : LockId) (hs : List Held) → holds_alone hs l ≡ true → holds hs l ≡ true
alone-held l [] h = cc
alone-held l (x ∷ hs) h =
    by_test (same_lock x.lock l)
    (λ y. rw y refl)
    (λ n. rw n (alone-held l hs (elim (or_cases (is_alone x.mode && same_lock x.lock l) _ h) [
      | inl y ↦ absurd (let bad : true ≡ false = sym (and_parts (is_alone x.mode) (same_lock x.lock l) y).1 ∙ n in cc)
      | inr y ↦ y
    ])))

pub grips-whole : GripsAreWhole
grips-whole s me hs (Locked l) h = alone-held l hs h
grips-whole s me hs (Reached p) h = cc
grips-whole s me hs (Written p) h = cc
