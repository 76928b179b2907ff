-- Pages dirtied fit their word, with one more.
use Rattle.std.proofs.Common.{ℕ, zero, suc, ◌+◌, ◌*◌, ◌^◌, ◌<◌, ◌≤◌, Bool, true, false, List, [], ◌∷◌, length, arith}
use Rattle.std.specs.List.{sum_by}
use Rattle.std.proofs.lemmas.List.Sums.{sum_by-cons}
use Rattle.td_words.specs.declared.machines.Machine.{Machine}
use Rattle.flat_core.specs.World.{World}
use Rattle.flat_core.specs.Locks.{one_if, sum_below}
use Rattle.flat_core.specs.Exports.{is_dirty, is_page_where, entries_where}
use Rattle.flat_core.specs.Lawful.{Lawful, IsAlive}

one-at-most : (b : Bool) → one_if b ≤ 1
one-at-most true = omega arith
one-at-most false = omega arith

-- so many ones, and so many numbers of 36 bits
ones-few : (f : ℕ → Bool) (n : ℕ) → sum_below (λ p. one_if (f p)) n ≤ n
ones-few f zero = omega arith
ones-few f (suc n) = (let a = one-at-most (f n) in let b = ones-few f n in omega (arith, a, b))

sum-few : (f : ℕ → ℕ) → ((p : ℕ) → f p < 2 ^ 36) → (ps : List ℕ) → sum_by f ps ≤ 2 ^ 36 * length ps
sum-few f few [] = omega arith
sum-few f few (p ∷ ps) = (let a = few p in let b = sum-few f few ps in let one = sum_by-cons f p ps in omega (arith, a, b, one))

pub dirtied-few : (m : Machine) (w : World) (t : ℕ) → m.pages ≤ 1024 → Lawful m w → IsAlive w.pages w.tds t → w.tds.dirtied t + 1 < 2 ^ 64
dirtied-few m w t limit la alive =
    let all = la.counts.dirtied t alive in
    let dirty : entries_where is_dirty m.pages w.pages w.tds t ≤ m.pages = ones-few (λ p. is_page_where is_dirty w.pages t (w.tds.entries t 0) p) m.pages in
    let few : (s : ℕ) → w.streams.cleaned s < 2 ^ 36 = λ s.
    (let made = la.streams.cleaned s in let counted = la.streams.counter s in omega (arith, made, counted)) in
    let clean : sum_by w.streams.cleaned (w.tds.streams t) ≤ 2 ^ 36 * length (w.tds.streams t) = sum-few w.streams.cleaned few (w.tds.streams t) in
    let four = la.tds.streams_few t in
    omega (arith, all, dirty, clean, four, limit)
