-- The bundles of all processors, one processor after the other, are those of the run in another order.
use Rattle.std.proofs.Common.{◌≡◌, ◌≢◌, ◌⊎◌, inl, inr, refl, sym, ◌∙◌, ap, subst, ℕ, zero, suc, ◌+◌, ◌<◌, ◌≤◌, ◌==◌, true, false, List, [], ◌∷◌, ◌++◌, length, arith, append-nil, append_assoc}
use Rattle.std.specs.List.Sorted.{IsPermutation}
use Rattle.std.proofs.lemmas.Bool.{cases_lt, ne_eqb, eq-eqb}
use Rattle.std.proofs.lemmas.Bool.Decides.{eqb_tells}
use Rattle.std.proofs.lemmas.List.Sorted.{IsPermutation-refl, IsPermutation-trans, IsPermutation-append_comm, IsPermutation-append_left, IsPermutation-append_right}
use Rattle.flat_core.specs.World.{Made, put}
use Rattle.leaf_engine.specs.OwnLists.{WordLp}
use Rattle.merge_laws.specs.Laws.{AreMerged, AreBundlesOf}
use Rattle.merge_laws.specs.Laws.AreMerged.{nothing_made, more_made}

-- those of n processors from p on
abbrev pub bundles_from : (n p : ℕ) → (ℕ → List Made) → List Made
bundles_from zero p own = []
bundles_from (suc n) p own = own p ++ bundles_from n (p + 1) own

from-nothing : (n p : ℕ) → bundles_from n p (λ q. []) ≡ []
from-nothing zero p = refl
from-nothing (suc n) p = from-nothing n (p + 1)

pub same-from : (n p : ℕ) (f g : ℕ → List Made) → ((q : ℕ) → p ≤ q → q < p + n → f q ≡ g q) → bundles_from n p f ≡ bundles_from n p g
same-from zero p f g h = refl
same-from (suc n) p f g h = λ i. h p (omega arith) (omega arith) i ++ same-from n (p + 1) f g (λ q low high. h q (omega (arith, low)) (omega (arith, high))) i

put-own : (f : ℕ → List Made) (q k : ℕ) (x : List Made) → k ≡ q → put f q x k ≡ x
put-own f q k x e = rw (eq-eqb k q e) refl

put-other : (f : ℕ → List Made) (q k : ℕ) (x : List Made) → k ≢ q → put f q x k ≡ f k
put-other f q k x ne = rw (ne_eqb k q ne) refl

-- those of one processor more come at its end
put-from : (n p q : ℕ) (own : ℕ → List Made) (bs : List Made) → p ≤ q → q < p + n → IsPermutation (bundles_from n p (put own q (own q ++ bs))) (bundles_from n p own ++ bs)
put-from zero p q own bs low high = absurd (omega (arith, low, high))
put-from (suc n) p q own bs low high = by (λ after. put-from n (p + 1) q own bs after (omega (arith, high))) (eqb_tells q p)
  where
    new : ℕ → List Made
    new = put own q (own q ++ bs)

    rest : List Made
    rest = bundles_from n (p + 1) own

    by : (p + 1 ≤ q → IsPermutation (bundles_from n (p + 1) new) (rest ++ bs)) → (((q == p) ≡ true) × (q ≡ p)) ⊎ (((q == p) ≡ false) × (q ≢ p)) → IsPermutation (new p ++ bundles_from n (p + 1) new) ((own p ++ rest) ++ bs)
    by further (inl t) =
        let here : new p ≡ own p ++ bs = put-own own q p (own q ++ bs) (sym t.1) ∙ ap (λ (k : ℕ). own k ++ bs) t.1 in
        let there : bundles_from n (p + 1) new ≡ rest = same-from n (p + 1) new own (λ k above below. put-other own q k (own q ++ bs) (λ e. absurd (omega (arith, above, e, t.1)))) in
        let moved : IsPermutation (own p ++ (bs ++ rest)) (own p ++ (rest ++ bs)) = IsPermutation-append_right (own p) (bs ++ rest) (rest ++ bs) (IsPermutation-append_comm bs rest) in
        subst (λ (z : List Made). IsPermutation z ((own p ++ rest) ++ bs)) (sym ((λ i. here i ++ there i) ∙ append_assoc (own p) bs rest))
        (subst (λ (z : List Made). IsPermutation (own p ++ (bs ++ rest)) z) (sym (append_assoc (own p) rest bs)) moved)
    by further (inr f) =
        let here : new p ≡ own p = put-other own q p (own q ++ bs) (λ e. f.1 (sym e)) in
        let moved : IsPermutation (own p ++ bundles_from n (p + 1) new) (own p ++ (rest ++ bs)) =
        IsPermutation-append_right (own p) (bundles_from n (p + 1) new) (rest ++ bs) (further (omega (arith, low, f.1))) in
        subst (λ (z : List Made). IsPermutation z ((own p ++ rest) ++ bs)) (sym (ap (λ (z : List Made). z ++ bundles_from n (p + 1) new) here))
        (subst (λ (z : List Made). IsPermutation (own p ++ bundles_from n (p + 1) new) z) (sym (append_assoc (own p) rest bs)) moved)

none-first : (xs ys : List Made) → xs ++ ys ≡ [] → xs ≡ []
none-first [] ys e = refl
none-first (x ∷ xs) ys e = (let n : suc (length (xs ++ ys)) ≡ 0 = ap length e in absurd (omega (arith, n)))

none-behind : (xs ys : List Made) → xs ++ ys ≡ [] → ys ≡ []
none-behind [] ys e = e
none-behind (x ∷ xs) ys e = (let n : suc (length (xs ++ ys)) ≡ 0 = ap length e in absurd (omega (arith, n)))

-- merged lists, where none but the first n processors has one
gathers : (n : ℕ) (own : ℕ → List Made) (all : List Made) → AreMerged own all → ((p : ℕ) → n ≤ p → own p ≡ []) → IsPermutation (bundles_from n 0 own) all
gathers n own all nothing_made none = subst (λ (z : List Made). IsPermutation z []) (sym (from-nothing n 0)) (IsPermutation-refl [])
gathers n own all (more_made was before q bs h) none = by (λ nobody. gathers n was before h nobody) (cases_lt q n)
  where
    new : ℕ → List Made
    new = put was q (was q ++ bs)

    before-none : (p : ℕ) → n ≤ p → was p ≡ []
    before-none p ge = split (eqb_tells p q)
      where
        split : (((p == q) ≡ true) × (p ≡ q)) ⊎ (((p == q) ≡ false) × (p ≢ q)) → was p ≡ []
        split (inl t) = ap was t.1 ∙ none-first (was q) bs (sym (put-own was q p (was q ++ bs) t.1) ∙ none p ge)
        split (inr f) = sym (put-other was q p (was q ++ bs) f.1) ∙ none p ge

    by : (((p : ℕ) → n ≤ p → was p ≡ []) → IsPermutation (bundles_from n 0 was) before) → (q < n) ⊎ (n ≤ q) → IsPermutation (bundles_from n 0 new) (before ++ bs)
    by further (inl lt) =
        IsPermutation-trans (bundles_from n 0 new) (bundles_from n 0 was ++ bs) (before ++ bs) (put-from n 0 q was bs (omega arith) (omega (arith, lt)))
        (IsPermutation-append_left bs (bundles_from n 0 was) before (further before-none))
    by further (inr ge) =
        let nothing : bs ≡ [] = none-behind (was q) bs (sym (put-own was q q (was q ++ bs) refl) ∙ none q ge) in
        let same : bundles_from n 0 new ≡ bundles_from n 0 was = same-from n 0 new was (λ k low high. put-other was q k (was q ++ bs) (λ e. absurd (omega (arith, high, e, ge)))) in
        subst (λ (z : List Made). IsPermutation z (before ++ bs)) (sym same)
        (subst (λ (z : List Made). IsPermutation (bundles_from n 0 was) z) (sym (ap (λ (z : List Made). before ++ z) nothing ∙ append-nil before)) (further before-none))

-- the bundles of n processors are all that a run has
pub all-gathered : (n : ℕ) (now : ℕ → WordLp) (all : List Made) → AreBundlesOf n now all → IsPermutation (bundles_from n 0 (λ p. (now p).beside.bundles)) all
all-gathered n now all a =
    subst (λ (z : List Made). IsPermutation z all) (same-from n 0 a.own (λ p. (now p).beside.bundles) (λ q low high. a.each q (omega (arith, high)))) (gathers n a.own all a.merged a.none_else)
