-- What is held of the locks that a row tries, in their order.
use Rattle.std.proofs.Common.{◌≡◌, ◌⊎◌, inl, inr, refl, sym, ◌∙◌, subst, ap, ℕ, zero, suc, ◌+◌, ◌≤◌, List, [], ◌∷◌, ◌++◌, length, drop, Bool, true, false, ◌&&◌, ◌||◌, arith}
use Rattle.std.specs.List.{list_any}
use Rattle.std.proofs.lemmas.Bool.{eq-eqb, or_cases}
use Rattle.td_words.specs.declared.names.Mode.{Mode}
use Rattle.td_words.specs.declared.names.Mode.TheVariants.{Shared, Exclusive}
use Rattle.flat_core.specs.Processor.{LockId, OfPage, OfOp, OfTree, OfEpoch, OfRtmr, OfKeys, Held}
use Rattle.flat_core.specs.Locks.{same_lock, is_alone}
use Rattle.flat_core.specs.Row.{Item, Check, Try, Attempts, Succeeds, Passes, next}
use Rattle.flat_core.specs.Tries.{tries}
use Rattle.flat_core.specs.Inside.{held_then}
use Rattle.word_rules.specs.Guards.{Grip, Locked}
use Rattle.word_rules.specs.CallUses.{HoldsTry, HoldsTries}
use Rattle.lock_words.specs.Grips.{holds, holds_alone}

-- the next try, behind those that were granted
pub drop-then : (hs : List Held) (j : ℕ) (xs : List Held) → drop (length hs + j) (held_then hs xs) ≡ drop j xs
drop-then [] j xs = let e : 0 + j ≡ j = omega arith in ap (λ (n : ℕ). drop n xs) e
drop-then (h ∷ hs) j xs =
    let e : suc (length hs) + j ≡ length hs + suc j = omega arith in
    ap (λ (n : ℕ). drop n (held_then hs (h ∷ xs))) e ∙ drop-then hs (suc j) (h ∷ xs)

pub next-locks : {R : Type 0} (items : List (Item R)) (k : ℕ) (l : LockId) (m : Mode) → next items k ≡ Attempts l m → (xs : List Held) × (drop k (tries items) ≡ record { lock = l; mode = m } ∷ xs)
next-locks [] k l m e = cc
next-locks (Check true r ∷ items) k l m e = next-locks items k l m e
next-locks (Check false r ∷ items) k l m e = cc
next-locks (Try a b ∷ items) zero l m e = let x : a ≡ l = cc in let y : b ≡ m = cc in (tries items, λ j. record { lock = x j; mode = y j } ∷ tries items)
next-locks (Try a b ∷ items) (suc k) l m e = next-locks items k l m e

same-self : (l : LockId) → same_lock l l ≡ true
same-self (OfPage p) = eq-eqb p p refl
same-self (OfOp p) = eq-eqb p p refl
same-self (OfTree p) = eq-eqb p p refl
same-self (OfEpoch p) = eq-eqb p p refl
same-self (OfRtmr p) = eq-eqb p p refl
same-self OfKeys = refl

or-last : (a b : Bool) → b ≡ true → (a || b) ≡ true
or-last true b h = refl
or-last false b h = h

pub held-behind : (xs hs : List Held) (l : LockId) → holds hs l ≡ true → holds (xs ++ hs) l ≡ true
held-behind [] hs l h = h
held-behind (x ∷ xs) hs l h = or-last (same_lock x.lock l) (holds (xs ++ hs) l) (held-behind xs hs l h)

pub alone-behind : (xs hs : List Held) (l : LockId) → holds_alone hs l ≡ true → holds_alone (xs ++ hs) l ≡ true
alone-behind [] hs l h = h
alone-behind (x ∷ xs) hs l h = or-last (is_alone x.mode && same_lock x.lock l) (holds_alone (xs ++ hs) l) (alone-behind xs hs l h)

or-more : (a b c : Bool) → (b ≡ true → c ≡ true) → (a || b) ≡ true → (a || c) ≡ true
or-more true b c k h = refl
or-more false b c k h = k h

pub held-before : (hs xs : List Held) (l : LockId) → holds hs l ≡ true → holds (hs ++ xs) l ≡ true
held-before [] xs l h = cc
held-before (x ∷ hs) xs l h = or-more (same_lock x.lock l) (holds hs l) (holds (hs ++ xs) l) (held-before hs xs l) h

pub alone-before : (hs xs : List Held) (l : LockId) → holds_alone hs l ≡ true → holds_alone (hs ++ xs) l ≡ true
alone-before [] xs l h = cc
alone-before (x ∷ hs) xs l h = or-more (is_alone x.mode && same_lock x.lock l) (holds_alone hs l) (holds_alone (hs ++ xs) l) (alone-before hs xs l) h

-- what is in a list is held by it, so it is by one that it is in
pub record IsWithin (hs all : List Held) : Type 0 where
  pub held : (l : LockId) → holds hs l ≡ true → holds all l ≡ true
  pub alone : (l : LockId) → holds_alone hs l ≡ true → holds_alone all l ≡ true

but-first : (x : Held) (hs all : List Held) → IsWithin (x ∷ hs) all → IsWithin hs all
but-first x hs all i = record {
  held = λ l h. i.held l (or-last (same_lock x.lock l) (holds hs l) h);
  alone = λ l h. i.alone l (or-last (is_alone x.mode && same_lock x.lock l) (holds_alone hs l) h);
}

pub all-tried : {R : Type 0} (items : List (Item R)) (k : ℕ) → next items k ≡ Succeeds → length (tries items) ≤ k
all-tried [] k e = omega arith
all-tried (Check true r ∷ items) k e = all-tried items k e
all-tried (Check false r ∷ items) k e = cc
all-tried (Try l m ∷ items) zero e = cc
all-tried (Try l m ∷ items) (suc k) e = let i = all-tried items k e in omega (arith, i)

pub all-pass : {R : Type 0} (items : List (Item R)) (k : ℕ) → next items k ≡ Succeeds → Passes items
all-pass [] k e = tt
all-pass (Check true r ∷ items) k e = (refl, all-pass items k e)
all-pass (Check false r ∷ items) k e = cc
all-pass (Try l m ∷ items) zero e = cc
all-pass (Try l m ∷ items) (suc k) e = all-pass items k e

pub length-then : (hs xs : List Held) → length (held_then hs xs) ≡ length hs + length xs
length-then [] xs = omega arith
length-then (h ∷ hs) xs = let k = length-then hs (h ∷ xs) in omega (arith, k)

pub nothing-left : (xs : List Held) → length xs ≡ 0 → xs ≡ []
nothing-left [] e = refl
nothing-left (x ∷ xs) e = absurd (omega (arith, e))

-- so where as many are held as are tried, nothing is left
pub all-had : {R : Type 0} (items : List (Item R)) (hs rest : List Held) → tries items ≡ held_then hs rest → next items (length hs) ≡ Succeeds → rest ≡ []
all-had items hs rest are e =
    let few = all-tried items (length hs) e in
    let same = ap length are in
    let long = length-then hs rest in
    nothing-left rest (omega (arith, few, same, long))

-- and one of these that passes a test is one of those held
turned-any : (f : Held → Bool) (hs xs : List Held) → list_any f (held_then hs xs) ≡ true → (list_any f hs ≡ true) ⊎ (list_any f xs ≡ true)
turned-any f [] xs e = inr e
turned-any f (h ∷ hs) xs e = elim (turned-any f hs (h ∷ xs) e) [
  | inl a ↦ inl (or-last (f h) (list_any f hs) a)
  | inr b ↦ (elim (or_cases (f h) (list_any f xs) b) [ inl c ↦ inl (rw c refl) | inr d ↦ inr d ])
]

pub all-turned : (f : Held → Bool) (hs : List Held) → list_any f (held_then hs []) ≡ true → list_any f hs ≡ true
all-turned f hs e = elim (turned-any f hs [] e) [ inl a ↦ a | inr b ↦ cc ]

-- so all that a row tries is held, where what is held is what it tries first, and there is nothing more to try
module _ (g : Grip) (all : List Held) (has : (l : LockId) → holds all l ≡ true → g.has (Locked l) ≡ true) (sole : (l : LockId) → holds_alone all l ≡ true → g.sole (Locked l) ≡ true) where
  abbrev AllHeld : List Held → Type 0
  AllHeld [] = Unit {0}
  AllHeld (h ∷ hs) = HoldsTry g h.lock h.mode × AllHeld hs

  each-held : (hs : List Held) → IsWithin hs all → AllHeld hs
  each-held [] i = tt
  each-held (x ∷ hs) i = (by x.mode (λ e. i.alone x.lock (rw (e, same-self x.lock) refl)), each-held hs (but-first x hs all i))
    where
      here : g.has (Locked x.lock) ≡ true
      here = has x.lock (i.held x.lock (rw (same-self x.lock) refl))

      by : (m : Mode) → (is_alone m ≡ true → holds_alone all x.lock ≡ true) → HoldsTry g x.lock m
      by Shared h = here
      by Exclusive h = (here, sole x.lock (h refl))

  turned : (hs xs : List Held) → AllHeld hs → AllHeld xs → AllHeld (held_then hs xs)
  turned [] xs a b = b
  turned (x ∷ hs) xs a b = turned hs (x ∷ xs) a.1 (a.0, b)

  of-items : {R : Type 0} (items : List (Item R)) → AllHeld (tries items) → HoldsTries g items
  of-items [] a = tt
  of-items (Check b r ∷ items) a = of-items items a
  of-items (Try l m ∷ items) a = (a.0, of-items items a.1)

  pub tries-held : {R : Type 0} (items : List (Item R)) (hs rest : List Held) → IsWithin hs all → tries items ≡ held_then hs rest → next items (length hs) ≡ Succeeds → HoldsTries g items
  tries-held items hs rest i are e =
      let none : rest ≡ [] = all-had items hs rest are e in
      of-items items (subst AllHeld (sym (are ∙ ap (held_then hs) none)) (turned hs [] (each-held hs i) tt))
