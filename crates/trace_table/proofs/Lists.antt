-- Lists of lists, looked up by place.
use Rattle.std.proofs.Common.{◌≡◌, ◌≢◌, ◌⊎◌, inl, inr, ⊎_elim, refl, sym, ap, subst, ℕ, zero, suc, ◌+◌, ◌<◌, ◌≤◌, List, [], ◌∷◌, ◌++◌, length, Option, Some, None, arith, slice_index_or}
use mathlib.Core.Option.{some, some-injective, some-ne-none}
use lib.ListN.{get_elem?}
use Rattle.step_core.specs.declared.items.Taken.{Taken}
use Rattle.trace_table.specs.declared.told.Swap.{Swap}
use Rattle.trace_table.specs.Views.{grown_in}
use Rattle.trace_table.specs.Kept.{slot_of, due_at}

abbrev is-some : {A : Type 0} → Option A → Type 0
is-some None = ⊥
is-some (Some x) = Unit {0}

pub none-some : {A : Type 0} (x : A) → None ≡ Some x → ⊥
none-some x e = subst is-some (sym e) tt

abbrev some-or : {A : Type 0} → A → Option A → A
some-or d None = d
some-or d (Some x) = x

pub some-same : {A : Type 0} (x y : A) → Some x ≡ Some y → x ≡ y
some-same x y e = ap (some-or x) e

-- a seat's own list
abbrev pub own_of : List (List Taken) → List Taken
own_of [] = []
own_of (own ∷ ls) = own

pub own-there : (ls : List (List Taken)) → 0 < length ls → get_elem? ls 0 ≡ some (own_of ls)
own-there [] h = absurd (omega (arith, h))
own-there (own ∷ ls) h = refl

pub grown-length : (ls : List (List Taken)) (xs : List Taken) → length (grown_in ls xs) ≡ length ls
grown-length [] xs = refl
grown-length (own ∷ ls) xs = refl

pub grown-there : (ls : List (List Taken)) (ys : List Taken) (q : ℕ) (xs : List Taken) → get_elem? (grown_in ls ys) q ≡ some xs → ((q ≡ 0) × (own_of ls ++ ys ≡ xs)) ⊎ ((q ≢ 0) × (get_elem? ls q ≡ some xs))
grown-there [] ys q xs e = absurd (some-ne-none xs (sym e))
grown-there (own ∷ ls) ys zero xs e = inl (refl, some-injective (own ++ ys) xs e)
grown-there (own ∷ ls) ys (suc q) xs e = inr ((λ n. absurd (omega (arith, n))), e)

pub at-inside : {A : Type 0} (ls : List A) (q : ℕ) (x : A) → get_elem? ls q ≡ some x → q < length ls
at-inside [] q x e = absurd (some-ne-none x (sym e))
at-inside (l ∷ ls) zero x e = omega arith
at-inside (l ∷ ls) (suc q) x e = let h = at-inside ls q x e in omega (arith, h)

pub in-two : (ls ms : List (List Taken)) (q : ℕ) (xs : List Taken) → get_elem? (ls ++ ms) q ≡ some xs → (get_elem? ls q ≡ some xs) ⊎ ((r : ℕ) × (q ≡ length ls + r) × (get_elem? ms r ≡ some xs))
in-two [] ms q xs e = inr (q, omega arith, e)
in-two (l ∷ ls) ms zero xs e = inl e
in-two (l ∷ ls) ms (suc q) xs e = ⊎_elim inl (λ t. inr (t.0, (let h = t.1 in omega (arith, h)), t.2)) (in-two ls ms q xs e)

pub at-end : {A : Type 0} (l : List A) (a b : A) (j : ℕ) → get_elem? (l ++ a ∷ []) j ≡ some b → (get_elem? l j ≡ some b) ⊎ ((j ≡ length l) × (a ≡ b))
at-end [] a b zero e = inr (refl, some-injective a b e)
at-end [] a b (suc j) e = absurd (some-ne-none b (sym e))
at-end (x ∷ xs) a b zero e = inl e
at-end (x ∷ xs) a b (suc j) e = ⊎_elim inl (λ t. inr ((let h = t.0 in omega (arith, h)), t.1)) (at-end xs a b j e)

-- each list is where it is looked up, and there is none behind the last
pub looked-up : (ls : List (List Taken)) (p : ℕ) → ((xs : List Taken) × (get_elem? ls p ≡ some xs) × (slice_index_or ls p [] ≡ xs) × (p < length ls)) ⊎ ((length ls ≤ p) × (slice_index_or ls p [] ≡ []))
looked-up [] p = inr (omega arith, refl)
looked-up (l ∷ ls) zero = inl (l, refl, refl, omega arith)
looked-up (l ∷ ls) (suc p) = ⊎_elim (λ t. inl (t.0, t.1, t.2, (let h = t.3 in omega (arith, h)))) (λ t. inr ((let h = t.0 in omega (arith, h)), t.1)) (looked-up ls p)

-- a seat that has no swap under way has no slot out
pub none-due : (x : Option Swap) (q : ℕ) → x ≡ None → due_at x q ≡ None
none-due x zero e = ap slot_of e
none-due x (suc q) e = refl

-- and one that has a slot out has a swap under way
pub under-way : (x : Option Swap) (k : ℕ) → slot_of x ≡ Some k → (y : Swap) × (x ≡ Some y) × (y.slot ≡ k)
under-way None k e = absurd (none-some k e)
under-way (Some y) k e = (y, refl, some-same y.slot k e)
