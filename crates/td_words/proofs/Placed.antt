-- Places have addresses of their own.
use Rattle.std.proofs.Common.{◌≡◌, refl, ap, ℕ, ◌+◌, ◌*◌, ◌<◌, true, false, ◌==◌, ◌&&◌, arith}
use Rattle.std.proofs.lemmas.Bool.{eq-eqb, eqb-true, and_parts}
use Rattle.td_words.specs.declared.names.LockName.{LockName}
use Rattle.td_words.specs.declared.names.LockName.TheVariants as name
use Rattle.td_words.specs.declared.machines.Machine.{Machine}
use Rattle.td_words.specs.declared.places.TheConstants.{KEY_FIRST}
use Rattle.td_words.specs.Place.{WordPlace, Lock, Pamt, Word, Key, IsIn, address, same_place, lock_place}
use Rattle.td_words.specs.Laws.{PlacesInjective}
use Rattle.td_words.proofs.Apart.{apart}

no_two : (m : Machine) (q r : WordPlace) → IsIn m q → IsIn m r → address m.pages q ≡ address m.pages r → q ≡ r
no_two m (Lock p) (Lock q) a b e = ap Lock (omega (arith, e))
no_two m (Lock p) (Pamt q) a b e = absurd (omega (arith, e))
no_two m (Lock p) (Word q j) a b e = absurd (omega (arith, e, b.1))
no_two m (Lock p) (Key k) a b e = absurd (omega (arith, e, a))
no_two m (Pamt p) (Lock q) a b e = absurd (omega (arith, e))
no_two m (Pamt p) (Pamt q) a b e = ap Pamt (omega (arith, e))
no_two m (Pamt p) (Word q j) a b e = absurd (omega (arith, e, b.1))
no_two m (Pamt p) (Key k) a b e = absurd (omega (arith, e, a))
no_two m (Word p i) (Lock q) a b e = absurd (omega (arith, e, a.1))
no_two m (Word p i) (Pamt q) a b e = absurd (omega (arith, e, a.1))
no_two m (Word p i) (Word q j) a b e = let h = apart.words p i q j a.1 b.1 e in rw (h.0, h.1) refl
no_two m (Word p i) (Key k) a b e = absurd (omega (arith, e, a.0, a.1))
no_two m (Key k) (Lock q) a b e = absurd (omega (arith, e, b))
no_two m (Key k) (Pamt q) a b e = absurd (omega (arith, e, b))
no_two m (Key k) (Word q j) a b e = absurd (omega (arith, e, b.0, b.1))
no_two m (Key k) (Key j) a b e = ap Key (omega (arith, e))

within : (m : Machine) (q : WordPlace) → IsIn m q → address m.pages q < 514 * m.pages + (KEY_FIRST + m.hkids)
within m (Lock p) a = omega (arith, a)
within m (Pamt p) a = omega (arith, a)
within m (Word p i) a = omega (arith, a.0, a.1)
within m (Key k) a = omega (arith, a)

pub same-true : (q r : WordPlace) → same_place q r ≡ true → q ≡ r
same-true (Lock p) (Lock q) h = ap Lock (eqb-true p q h)
same-true (Pamt p) (Pamt q) h = ap Pamt (eqb-true p q h)
same-true (Key k) (Key j) h = ap Key (eqb-true k j h)
same-true (Word p i) (Word q j) h =
    let a : p ≡ q = eqb-true p q (and_parts (p == q) (i == j) h).0 in
    let b : i ≡ j = eqb-true i j (and_parts (p == q) (i == j) h).1 in rw (a, b) refl
same-true _ _ h = cc

itself : (q : WordPlace) → same_place q q ≡ true
itself (Lock p) = eq-eqb p p refl
itself (Pamt p) = eq-eqb p p refl
itself (Word p i) = rw (eq-eqb p p refl, eq-eqb i i refl) refl
itself (Key k) = eq-eqb k k refl

same-of : (q r : WordPlace) → q ≡ r → same_place q r ≡ true
same-of q r e = rw e (itself r)

-- other words of one page
differ : {A : Type 0} (c : ℕ) → ((c == c) && false) ≡ true → A
differ c h = let bad : false ≡ true = (and_parts (c == c) false h).1 in cc

names_apart : (c : ℕ) (a b : LockName) → same_place (lock_place c a) (lock_place c b) ≡ true → a ≡ b
names_apart c (name.Page p) (name.Page q) h = ap name.Page (eqb-true p q h)
names_apart c name.Op name.Op h = refl
names_apart c name.Tree name.Tree h = refl
names_apart c name.Epoch name.Epoch h = refl
names_apart c name.Rtmr name.Rtmr h = refl
names_apart c name.Keys name.Keys h = refl
names_apart c name.Op name.Tree h = differ c h
names_apart c name.Op name.Epoch h = differ c h
names_apart c name.Op name.Rtmr h = differ c h
names_apart c name.Tree name.Op h = differ c h
names_apart c name.Tree name.Epoch h = differ c h
names_apart c name.Tree name.Rtmr h = differ c h
names_apart c name.Epoch name.Op h = differ c h
names_apart c name.Epoch name.Tree h = differ c h
names_apart c name.Epoch name.Rtmr h = differ c h
names_apart c name.Rtmr name.Op h = differ c h
names_apart c name.Rtmr name.Tree h = differ c h
names_apart c name.Rtmr name.Epoch h = differ c h
names_apart c _ _ h = cc

pub placed : PlacesInjective
placed = record {
  apart = no_two;
  inside = within;
  same = λ q r. (same-true q r, same-of q r);
  locks = λ c a b e. names_apart c a b (same-of (lock_place c a) (lock_place c b) e);
}
