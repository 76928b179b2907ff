-- Sums over processors.
use Rattle.std.proofs.Common.{◌≡◌, ap, ℕ, zero, suc, ◌+◌, ◌<◌, ◌==◌, arith}
use Rattle.std.proofs.lemmas.Bool.{eqb-true, eqb-false}
use Rattle.flat_core.specs.World.{put}
use Rattle.flat_core.specs.Processor.{Lp}
use Rattle.flat_core.specs.Locks.{sum_below}
use Rattle.flat_core.proofs.Tests.{by_test}
use Rattle.flat_core.proofs.LockLaw.{sum_above}

-- one processor's record is another
pub sum-put : (f : Lp → ℕ) (lps : ℕ → Lp) (p : ℕ) (x : Lp) (n : ℕ) → p < n → sum_below (λ q. f (put lps p x q)) n + f (lps p) ≡ sum_below (λ q. f (lps q)) n + f x
sum-put f lps p x zero h = absurd (omega (arith, h))
sum-put f lps p x (suc n) h =
    by_test (n == p)
    (λ y. (let here : n ≡ p = eqb-true n p y in
    let off = sum_above f lps p x n (omega (arith, here)) in
    let same : f (lps n) ≡ f (lps p) = ap (λ (k : ℕ). f (lps k)) here in rw y (omega (arith, off, same))))
    (λ y. (let d : n ≡ p → ⊥ = eqb-false n p y in
    let k = sum-put f lps p x n (omega (arith, d, h)) in rw y (omega (arith, k))))
