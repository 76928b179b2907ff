-- Child counts, where a page is taken or given back.
use Rattle.std.proofs.Common.{◌≡◌, ℕ, zero, suc, ◌+◌, ◌<◌, ◌≤◌, true, false, not, ◌==◌, ◌&&◌, nat_lt, refl, ap, sym, arith}
use Rattle.std.proofs.lemmas.Bool.{eq-eqb, eqb-true, eqb-false, ne_eqb, lt-ltb}
use Rattle.flat_core.specs.World.{Pages}
use Rattle.flat_core.specs.Locks.{one_if}
use Rattle.flat_core.specs.Conditions.{is_host_in, owned_below}
use Rattle.flat_core.proofs.Tests.{by_test}
use Rattle.leaf_parts.specs.Words.{raised}

-- whether a page is one of a TD's children
abbrev pub counted : Pages → ℕ → ℕ → ℕ
counted pages t p = one_if (not (p == t) && (not (is_host_in pages p) && pages.owners p == t))

-- a host page is nobody's child, and neither is a page of another TD, or a TDR page its own; any other page is its TD's
pub counted-host : (pages : Pages) (t p : ℕ) → is_host_in pages p ≡ true → counted pages t p ≡ 0
counted-host pages t p host = by_test (p == t) (λ y. rw y refl) (λ n. rw (n, host) refl)

pub counted-other : (pages : Pages) (t p : ℕ) → (pages.owners p == t) ≡ false → counted pages t p ≡ 0
counted-other pages t p other = by_test (p == t) (λ y. rw y refl) (λ n. by_test (is_host_in pages p) (λ y. rw (n, y) refl) (λ o. rw (n, o, other) refl))

pub counted-itself : (pages : Pages) (t : ℕ) → counted pages t t ≡ 0
counted-itself pages t = rw (eq-eqb t t refl) refl

pub counted-child : (pages : Pages) (t p : ℕ) → (p == t) ≡ false → is_host_in pages p ≡ false → pages.owners p ≡ t → counted pages t p ≡ 1
counted-child pages t p apart taken its = rw (apart, taken, its, eq-eqb t t refl) refl

-- as many as there are pages at most
counted-few : (pages : Pages) (t p : ℕ) → counted pages t p ≤ 1
counted-few pages t p = by_test (not (p == t) && (not (is_host_in pages p) && pages.owners p == t)) (λ y. rw y (omega arith)) (λ n. rw n (omega arith))

pub owned-few : (pages : Pages) (t n : ℕ) → owned_below pages t n ≤ n
owned-few pages t zero = omega arith
owned-few pages t (suc n) =
    let here : counted pages t n ≤ 1 = counted-few pages t n in
    let below : owned_below pages t n ≤ n = owned-few pages t n in
    omega (arith, here, below)

-- one page has changed
module _ (old new : Pages) (p : ℕ) (kinds : (q : ℕ) → (q == p) ≡ false → new.kinds q ≡ old.kinds q) (owners : (q : ℕ) → (q == p) ≡ false → new.owners q ≡ old.owners q) (t : ℕ) where
  same-there : (q : ℕ) → (q == p) ≡ false → counted new t q ≡ counted old t q
  same-there q n = rw (kinds q n, owners q n) refl

  off : (n : ℕ) → n ≤ p → owned_below new t n ≡ owned_below old t n
  off zero h = refl
  off (suc n) h =
      let apart : (n == p) ≡ false = ne_eqb n p (λ e. omega (arith, e, h)) in
      let here : counted new t n ≡ counted old t n = same-there n apart in
      let below : owned_below new t n ≡ owned_below old t n = off n (omega (arith, h)) in
      omega (arith, here, below)

  pub owned-changed : (n : ℕ) → p < n → owned_below new t n + counted old t p ≡ owned_below old t n + counted new t p
  owned-changed zero h = absurd (omega (arith, h))
  owned-changed (suc n) h = by_test (n == p)
      (λ y. (let is : n ≡ p = eqb-true n p y in
      let was : counted old t n ≡ counted old t p = ap (counted old t) is in
      let now : counted new t n ≡ counted new t p = ap (counted new t) is in
      let below : owned_below new t n ≡ owned_below old t n = off n (omega (arith, is)) in
      omega (arith, was, now, below)))
      (λ y. (let apart : n ≡ p → ⊥ = eqb-false n p y in
      let here : counted new t n ≡ counted old t n = same-there n y in
      let below : owned_below new t n + counted old t p ≡ owned_below old t n + counted new t p = owned-changed n (omega (arith, apart, h)) in
      omega (arith, here, below)))

  -- a host page that becomes a TD's, and a page that is the host's again
  pub owned-taken : (n : ℕ) → p < n → is_host_in old p ≡ true → (p == t) ≡ false → is_host_in new p ≡ false → new.owners p ≡ t → owned_below new t n ≡ owned_below old t n + 1
  owned-taken n small host apart taken its =
      let put : owned_below new t n + counted old t p ≡ owned_below old t n + counted new t p = owned-changed n small in
      let was : counted old t p ≡ 0 = counted-host old t p host in
      let now : counted new t p ≡ 1 = counted-child new t p apart taken its in
      omega (arith, put, was, now)

  pub owned-given : (n : ℕ) → p < n → is_host_in new p ≡ true → (p == t) ≡ false → is_host_in old p ≡ false → old.owners p ≡ t → owned_below new t n + 1 ≡ owned_below old t n
  owned-given n small host apart taken its =
      let put : owned_below new t n + counted old t p ≡ owned_below old t n + counted new t p = owned-changed n small in
      let was : counted old t p ≡ 1 = counted-child old t p apart taken its in
      let now : counted new t p ≡ 0 = counted-host new t p host in
      omega (arith, put, was, now)

  -- the counts of other TDs stay
  pub owned-same : (n : ℕ) → p < n → counted old t p ≡ 0 → counted new t p ≡ 0 → owned_below new t n ≡ owned_below old t n
  owned-same n small was now =
      let put : owned_below new t n + counted old t p ≡ owned_below old t n + counted new t p = owned-changed n small in
      omega (arith, put, was, now)

  -- the count that is stored, where a page is taken
  pub raised-is : (n : ℕ) → owned_below new t n ≡ owned_below old t n + 1 → raised n (owned_below old t n) ≡ owned_below new t n
  raised-is n more =
      let few : owned_below new t n ≤ n = owned-few new t n in
      let small : nat_lt (owned_below old t n) n ≡ true = lt-ltb (owned_below old t n) n (omega (arith, more, few)) in
      rw small (sym more)
