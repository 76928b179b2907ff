-- What holds of each element of a list and each later one.
use Rattle.std.proofs.Common.{◌≡◌, ◌≢◌, ℕ, zero, suc, List, [], ◌∷◌, Bool, ◌==◌, All, AllPairs, ◌⊎◌, inl, inr, refl, arith}
use Rattle.std.specs.List.{Contains}
use Rattle.std.specs.List.Sorted.{IsPermutation}
use Rattle.std.proofs.lemmas.Bool.{eqb-false, ne_eqb}
use Rattle.std.proofs.lemmas.Bool.Decides.{nat_tests}
use Rattle.std.proofs.lemmas.Map.Keys.{IsDistinct-from_apart, apart_from_distinct, IsDistinct-IsPermutation}

pub pairs_nil : {X : Type 0} (R : X → X → Type 0) → AllPairs R []
pairs_nil R i j d h k = absurd (omega arith)

pub pairs_cons : {X : Type 0} (R : X → X → Type 0) (x : X) (xs : List X) → All (R x) xs → AllPairs R xs → AllPairs R (x ∷ xs)
pairs_cons R x xs one all zero zero d h k = absurd (omega arith)
pairs_cons R x xs one all zero (suc j) d h k = one j d (omega arith)
pairs_cons R x xs one all (suc i) zero d h k = absurd (omega arith)
pairs_cons R x xs one all (suc i) (suc j) d h k = all i j d (omega arith) (omega arith)

pub pairs_head : {X : Type 0} (R : X → X → Type 0) (x : X) (xs : List X) → AllPairs R (x ∷ xs) → All (R x) xs
pairs_head R x xs all k d h = all 0 (suc k) d (omega arith) (omega arith)

pub pairs_tail : {X : Type 0} (R : X → X → Type 0) (x : X) (xs : List X) → AllPairs R (x ∷ xs) → AllPairs R xs
pairs_tail R x xs all i j d h k = all (suc i) (suc j) d (omega arith) (omega arith)

-- what differs stays so in another order
pub apart_moved : {X : Type 0} (key : X → ℕ) (xs ys : List X) → IsPermutation xs ys
    → AllPairs (λ x y. key x ≢ key y) xs → AllPairs (λ x y. key x ≢ key y) ys
apart_moved {X} key xs ys moved apart =
    let e : X → X → Bool = λ x y. key x == key y in
    let before = IsDistinct-from_apart e xs (λ i j d h k. ne_eqb _ _ (apart i j d h k)) in
    let after = IsDistinct-IsPermutation e (λ x y. grind (arith, nat_tests)) xs ys moved before in
    λ i j d h k. eqb-false _ _ (apart_from_distinct e ys i j d after h k)

pub first_or_later : {X : Type 0} (x y : X) (xs : List X) → Contains (x ∷ xs) y → (x ≡ y) ⊎ Contains xs y
first_or_later x y xs (zero, h, e) = inl e
first_or_later x y xs (suc k, h, e) = inr (k, omega arith, e)

pub is_later : {X : Type 0} (x y : X) (xs : List X) → Contains xs y → Contains (x ∷ xs) y
is_later x y xs (k, h, e) = (suc k, omega arith, e)

pub is_first : {X : Type 0} (x : X) (xs : List X) → Contains (x ∷ xs) x
is_first x xs = (zero, omega arith, refl)
