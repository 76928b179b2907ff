-- The items of a leaf's changes make of the table what the changes make of memory.
use Rattle.std.proofs.Common.{◌≡◌, ℕ, ◌+◌, ◌-◌, ◌%◌, ◌^◌, ◌<◌, ◌≤◌, Bool, true, false, ◌==◌, cond, if◌then◌else◌, List, [], ◌∷◌, Option, refl, ap, sym, ◌∙◌, subst, inl, inr, arith}
use Rattle.std.proofs.lemmas.Bool.{eq-eqb, eqb-true}
use Rattle.std.proofs.lemmas.Bool.Decides.{nat_tests}
use Rattle.td_words.specs.declared.machines.Machine.{Machine}
use Rattle.td_words.specs.Address.{lock_at, pamt_at, word_at, key_at}
use Rattle.td_words.specs.Place.{WordPlace, Lock, Pamt, Word, Key, IsIn, address, same_place}
use Rattle.td_words.specs.Laws.{PlacesInjective}
use Rattle.mrtd_measure.specs.declared.measures.Measure.{Measure}
use Rattle.step_core.specs.Words.{Words, with_word}
use Rattle.step_core.specs.Items.{Table, PlaysTo, with_slot}
use Rattle.step_core.specs.declared.items.Taken.{Taken}
use Rattle.step_core.specs.Laws.{PagesChangeAlone, is_word_of}
use Rattle.step_core.proofs.Paged.{parts}
use Rattle.flat_core.proofs.Tests.{by_test}
use Rattle.leaf_engine.specs.declared.needs.Write.{Write}
use Rattle.leaf_engine.specs.Changes.{Hand, Memory, Change, Put, PutHash, Raise, Clear, Copy, Swap, put_slot, put_page, changed, changed_all}
use Rattle.lock_words.specs.LockWords.{put_word}
use Rattle.leaf_engine.specs.Decides.{write_of, hand_for, IsHand}
use Rattle.leaf_engine.specs.Means.{IsHkid}
use Rattle.leaf_engine.specs.Items.{IsWritten, IsChanged, AreChanged}
use Rattle.leaf_engine.specs.Tables.{IsMemory, IsChangeIn, AreChangesIn}

-- two addresses are one where the places are

pub same_address : PlacesInjective → (m : Machine) (r q : WordPlace) → IsIn m r → IsIn m q → (address m.pages r == address m.pages q) ≡ same_place r q
same_address inj m r q a b = by_test (same_place r q)
    (λ e. (let s : r ≡ q = (inj.same r q).0 e in eq-eqb _ _ (ap (address m.pages) s) ∙ sym e))
    (λ e. by_test (address m.pages r == address m.pages q)
    (λ h. (let s : r ≡ q = inj.apart m r q a b (eqb-true _ _ h) in let t : same_place r q ≡ true = (inj.same r q).1 s in cc))
    (λ h. h ∙ sym e))

-- a store

cond_both : (b : Bool) (x y z : ℕ) → y ≡ z → cond b x y ≡ cond b x z
cond_both b x y z e = ap (λ (k : ℕ). cond b x k) e

pub word_put : PlacesInjective → (m : Machine) (t u : Words) (words : WordPlace → ℕ) (q : WordPlace) (x : ℕ) → IsIn m q → u ≡ with_word t (address m.pages q) x
    → ((r : WordPlace) → IsIn m r → t (address m.pages r) ≡ words r) → (r : WordPlace) → IsIn m r → u (address m.pages r) ≡ put_word words q x r
word_put inj m t u words q x in_q e same r in_r =
    ap (λ (w : Words). w (address m.pages r)) e
    ∙ (ap (λ (b : Bool). cond b x (t (address m.pages r))) (same_address inj m r q in_r in_q)
    ∙ cond_both (same_place r q) x (t (address m.pages r)) (words r) (same r in_r))

-- a page

is_lock_of : (p q : ℕ) → is_word_of p (lock_at q) ≡ false
is_lock_of p q = grind (arith, nat_tests)

is_pamt_of : (p q : ℕ) → is_word_of p (pamt_at q) ≡ false
is_pamt_of p q = grind (arith, nat_tests)

is_key_of : (p pages k : ℕ) → p < pages → is_word_of p (key_at pages k) ≡ false
is_key_of p pages k h = grind (arith, nat_tests)

is_content_of : (p q i : ℕ) → i < 512 → is_word_of p (word_at q i) ≡ (q == p)
is_content_of p q i h = grind (arith, nat_tests)

offset_is : (p q i : ℕ) → (q == p) ≡ true → word_at q i - word_at p 0 ≡ i
offset_is p q i e = let s : q ≡ p = eqb-true q p e in omega (arith, s)

page_put : (m : Machine) (t u : Words) (words : WordPlace → ℕ) (p : ℕ) (becomes xs : ℕ → ℕ) → p < m.pages
    → ((n : ℕ) → u n ≡ (if is_word_of p n then becomes (n - word_at p 0) else t n)) → ((i : ℕ) → i < 512 → becomes i ≡ xs i)
    → ((r : WordPlace) → IsIn m r → t (address m.pages r) ≡ words r) → (r : WordPlace) → IsIn m r → u (address m.pages r) ≡ put_page words p xs r
page_put m t u words p becomes xs in_p e becoming same (Lock q) a = e (lock_at q) ∙ (ap (λ (b : Bool). cond b (becomes (lock_at q - word_at p 0)) (t (lock_at q))) (is_lock_of p q) ∙ same (Lock q) a)
page_put m t u words p becomes xs in_p e becoming same (Pamt q) a = e (pamt_at q) ∙ (ap (λ (b : Bool). cond b (becomes (pamt_at q - word_at p 0)) (t (pamt_at q))) (is_pamt_of p q) ∙ same (Pamt q) a)
page_put m t u words p becomes xs in_p e becoming same (Key k) a =
    e (key_at m.pages k) ∙ (ap (λ (b : Bool). cond b (becomes (key_at m.pages k - word_at p 0)) (t (key_at m.pages k))) (is_key_of p m.pages k in_p) ∙ same (Key k) a)
page_put m t u words p becomes xs in_p e becoming same (Word q i) a =
    e (word_at q i) ∙ (ap (λ (b : Bool). cond b (becomes (word_at q i - word_at p 0)) (t (word_at q i))) (is_content_of p q i a.1)
    ∙ by_test (q == p)
    (λ h. (let o : word_at q i - word_at p 0 ≡ i = offset_is p q i h in rw (h, o) (becoming i a.1)))
    (λ h. rw h (same (Word q i) a)))

-- a slot

hands_equal : (h : Option Measure) (x y : Hand) → x ≡ y → IsHand h x → IsHand h y
hands_equal h x y e i = subst (λ (z : Hand). IsHand h z) e i

slot_test : (m : Machine) (h k : ℕ) → IsHkid m h → IsHkid m k → (h - 1 == k - 1) ≡ (h == k)
slot_test m h k a b =
    let a0 : 1 ≤ h = a.0 in
    let b0 : 1 ≤ k = b.0 in
    grind (arith, nat_tests)

pub slot_put : (m : Machine) (t u : ℕ → Option Measure) (slots : ℕ → Hand) (k : ℕ) (put : Option Measure) (made : Hand) → IsHkid m k → u ≡ with_slot t (k - 1) put → IsHand put made
    → ((h : ℕ) → IsHkid m h → IsHand (t (h - 1)) (slots h)) → (h : ℕ) → IsHkid m h → IsHand (u (h - 1)) (put_slot slots k made h)
slot_put m t u slots k put made in_k e i same h in_h =
    subst (λ (f : ℕ → Option Measure). IsHand (f (h - 1)) (put_slot slots k made h)) (sym e)
    (subst (λ (b : Bool). IsHand (cond b put (t (h - 1))) (put_slot slots k made h)) (sym (slot_test m h k in_h in_k)) (both (h == k)))
  where
    both : (b : Bool) → IsHand (cond b put (t (h - 1))) (cond b made (slots h))
    both true = i
    both false = same h in_h

-- one change

one-change : PlacesInjective → PagesChangeAlone → (m : Machine) (c : Change) (h between h' : Option Measure) (xs : List Taken) (t u : Table) (mem : Memory) → IsChangeIn m c
    → IsHand between (hand_for mem.hand c) → IsWritten (write_of m.pages mem.hand c) between xs h' → PlaysTo t xs u → IsMemory m t h mem → IsMemory m u h' (changed c mem)
one-change inj pages m (Put q x) h between h' xs t u mem a i w p mm =
    let p' = subst (λ (z : List Taken). PlaysTo t z u) w.1.1 p in
    record {
      words = word_put inj m t.words u.words mem.words q x a p'.1.0 mm.words;
      slots = λ k in_k. subst (λ (f : ℕ → Option Measure). IsHand (f (k - 1)) (mem.slots k)) (sym p'.1.1) (mm.slots k in_k);
      hand = subst (λ (z : Option Measure). IsHand z mem.hand) (sym w.0) i;
    }
one-change inj pages m (PutHash q x) h between h' xs t u mem a i w p mm =
    let p' = subst (λ (z : List Taken). PlaysTo t z u) w.1.1 p in
    record {
      words = word_put inj m t.words u.words mem.words q (x mem.hand) a p'.1.0 mm.words;
      slots = λ k in_k. subst (λ (f : ℕ → Option Measure). IsHand (f (k - 1)) (mem.slots k)) (sym p'.1.1) (mm.slots k in_k);
      hand = subst (λ (z : Option Measure). IsHand z mem.hand) (sym w.0) i;
    }
one-change inj pages m (Raise q more) h between h' xs t u mem a i w p mm =
    let p' = subst (λ (z : List Taken). PlaysTo t z u) w.1.1 p in
    let e : u.words ≡ with_word t.words (address m.pages q) ((mem.words q + more) % 2 ^ 64) = p'.1.0 ∙ ap (λ (y : ℕ). with_word t.words (address m.pages q) ((y + more) % 2 ^ 64)) (mm.words q a) in
    record {
      words = word_put inj m t.words u.words mem.words q ((mem.words q + more) % 2 ^ 64) a e mm.words;
      slots = λ k in_k. subst (λ (f : ℕ → Option Measure). IsHand (f (k - 1)) (mem.slots k)) (sym p'.1.1) (mm.slots k in_k);
      hand = subst (λ (z : Option Measure). IsHand z mem.hand) (sym w.0) i;
    }
one-change inj pages m (Clear q) h between h' xs t u mem a i w p mm =
    let r = pages.cleared t u q (subst (λ (z : List Taken). PlaysTo t z u) w.1 p) in
    record {
      words = page_put m t.words u.words mem.words q (λ n. 0) (λ n. 0) a r.words (λ n b. refl) mm.words;
      slots = λ k in_k. subst (λ (f : ℕ → Option Measure). IsHand (f (k - 1)) (mem.slots k)) (sym r.slots) (mm.slots k in_k);
      hand = subst (λ (z : Option Measure). IsHand z mem.hand) (sym w.0) i;
    }
one-change inj pages m (Copy f q) h between h' xs t u mem a i w p mm =
    let r = pages.copied t u f q w.1.0 a.2 w.1.1 (subst (λ (z : List Taken). PlaysTo t z u) w.1.2 p) in
    record {
      words = page_put m t.words u.words mem.words q (λ n. t.words (word_at f n)) (λ n. mem.words (Word f n)) a.1 r.words (λ n b. mm.words (Word f n) (a.0, b)) mm.words;
      slots = λ k in_k. subst (λ (g : ℕ → Option Measure). IsHand (g (k - 1)) (mem.slots k)) (sym r.slots) (mm.slots k in_k);
      hand = subst (λ (z : Option Measure). IsHand z mem.hand) (sym w.0) i;
    }
one-change inj pages m (Swap k made) h between h' xs t u mem a i (inl w) p mm =
    let p' = subst (λ (z : List Taken). PlaysTo t z u) w p in
    record {
      words = λ r in_r. ap (λ (f : Words). f (address m.pages r)) p'.1.0 ∙ mm.words r in_r;
      slots = slot_put m t.slots u.slots mem.slots k between (made mem.hand) a p'.1.1 i mm.slots;
      hand = subst (λ (z : Option Measure). IsHand z (mem.slots k)) (sym p'.0) (mm.slots k a);
    }
one-change inj pages m (Swap k made) h between h' xs t u mem a i (inr w) p mm = absurd (subst (λ (z : List Taken). PlaysTo t z u) w.1 p)

memory-same : (m : Machine) (t u : Table) (h h' : Option Measure) (mem : Memory) → h' ≡ h → PlaysTo t [] u → IsMemory m t h mem → IsMemory m u h' mem
memory-same m t u h h' mem e p mm = record {
  words = λ r in_r. ap (λ (f : Words). f (address m.pages r)) p.0 ∙ mm.words r in_r;
  slots = λ k in_k. subst (λ (f : ℕ → Option Measure). IsHand (f (k - 1)) (mem.slots k)) (sym p.1) (mm.slots k in_k);
  hand = subst (λ (z : Option Measure). IsHand z mem.hand) (sym e) mm.hand;
}

-- all changes
pub all-changes : PlacesInjective → PagesChangeAlone → (m : Machine) (cs : List Change) (h h' : Option Measure) (xs : List Taken) (t u : Table) (mem : Memory) → AreChangesIn m cs
    → AreChanged m cs h xs h' → PlaysTo t xs u → IsMemory m t h mem → IsMemory m u h' (changed_all cs mem)
all-changes inj pages m [] h h' xs t u mem a ch p mm = memory-same m t u h h' mem ch.0 (subst (λ (z : List Taken). PlaysTo t z u) ch.1 p) mm
all-changes inj pages m (c ∷ cs) h h' xs t u mem a ch p mm =
    let between : Option Measure = ch.0 in
    let ys : List Taken = ch.1.0 in
    let zs : List Taken = ch.1.1.0 in
    let split = parts t u ys zs (subst (λ (z : List Taken). PlaysTo t z u) ch.1.1.1 p) in
    let one : IsChanged m c h ys between = ch.1.1.2 in
    let handed = one.handed mem.hand mm.hand in
    let written : IsWritten (write_of m.pages mem.hand c) one.between ys between = subst (λ (z : Write). IsWritten z one.between ys between) handed.0 one.written in
    all-changes inj pages m cs between h' zs split.middle u (changed c mem) a.1 ch.1.1.3 split.second
    (one-change inj pages m c h one.between between ys t split.middle mem a.0 handed.1 written split.first mm)
