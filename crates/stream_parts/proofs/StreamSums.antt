-- One stream after another, as a leaf goes through them; and the sum of words of streams, where it is less than 2^64.
use Rattle.std.proofs.Common.{◌≡◌, ℕ, suc, ◌+◌, ◌*◌, ◌%◌, ◌^◌, ◌<◌, ◌≤◌, List, [], ◌∷◌, ◌++◌, length, Result, Ok, Err, sym, ap, subst, arith}
use Rattle.std.specs.List.{sum_by}
use Rattle.std.proofs.lemmas.List.Sums.{sum_by-cons}
use Rattle.arrayvec.specs.ArrayVec.{ArrayVec}
use Rattle.leaf_engine.specs.declared.plans.Stop.{Stop}
use Rattle.leaf_engine.specs.Trees.{Tree}
use Rattle.leaf_parts.specs.Parts.{Goes, Feeds}
use Rattle.leaf_parts.proofs.Parts.{goes-on, goes-off, feeds-on}
use Rattle.stream_parts.specs.Streams.{page_tree, pages_from}

module _ (pages tdcs number left k : ℕ) (ps : ArrayVec ℕ) (before between after : List ℕ) (r : Result (ArrayVec ℕ) Stop) (some : left ≡ suc k) where
  abbrev one : (ℕ → Tree) → Tree
  one f = page_tree pages tdcs number f

  abbrev with_one : ℕ → ArrayVec ℕ
  with_one page = record { items = ps.items ++ page ∷ [] }

  abbrev behind : ArrayVec ℕ → (ArrayVec ℕ → Tree) → Tree
  behind qs f = pages_from pages tdcs (number + 1) k qs f

  abbrev from_here : ℕ → (ArrayVec ℕ → Tree) → Tree
  from_here n f = pages_from pages tdcs number n ps f

  pub goes-failed : (s : Stop) → r ≡ Err s → Goes {A = ℕ} pages one before between (Err s) → Goes pages (from_here left) before after r
  goes-failed s is a = subst (λ (n : ℕ). Goes pages (from_here n) before after r) (sym some) (goes-off pages one (λ page. behind (with_one page)) before between after s r is a)

  module _ (page : ℕ) (next : ArrayVec ℕ) (is : next.items ≡ ps.items ++ page ∷ []) where
    same : next ≡ with_one page
    same = ap (λ (xs : List ℕ). record { items = xs }) is

    pub goes-next : Goes pages one before between (Ok page) → Goes pages (behind next) between after r → Goes pages (from_here left) before after r
    goes-next a b = subst (λ (n : ℕ). Goes pages (from_here n) before after r) (sym some)
        (goes-on pages one (λ page. behind (with_one page)) before between after page r a (subst (λ (qs : ArrayVec ℕ). Goes pages (behind qs) between after r) same b))

    pub feeds-next : Feeds one before between (Ok page) → Feeds (behind next) between after r → Feeds (from_here left) before after r
    feeds-next a b = subst (λ (n : ℕ). Feeds (from_here n) before after r) (sym some)
        (feeds-on one (λ page. behind (with_one page)) before between after page r a (subst (λ (qs : ArrayVec ℕ). Feeds (behind qs) between after r) same b))

-- so many numbers of 36 bits: 16 pages a bundle
pub sum-below : (f : ℕ → ℕ) → ((p : ℕ) → f p < 2 ^ 36) → (ps : List ℕ) → sum_by f ps ≤ length ps * 2 ^ 36
sum-below f small [] = omega arith
sum-below f small (p ∷ ps) = (let rest = sum-below f small ps in let here = small p in omega (arith, rest, here, sum_by-cons f p ps))

pub sum-fits : (f : ℕ → ℕ) → ((p : ℕ) → f p < 2 ^ 36) → (ps : List ℕ) → length ps ≤ 4 → sum_by f ps % 2 ^ 64 ≡ sum_by f ps
sum-fits f small ps few = (let most = sum-below f small ps in omega (arith, most, few))
