-- A table that holds given memory, and what a step makes of two tables that agree where it steps.
use Rattle.std.proofs.Common.{◌≡◌, ℕ, zero, suc, ◌+◌, ◌-◌, ◌*◌, ◌/◌, ◌%◌, ◌^◌, ◌<◌, ◌≤◌, true, false, ◌==◌, nat_lt, cond, List, length, drop, Option, Some, None, refl, ap, sym, ◌∙◌, subst, arith, length-drop}
use Rattle.std.proofs.lemmas.Bool.{eq-eqb, lt-ltb}
use Rattle.std.proofs.lemmas.List.{take_all}
use Rattle.sha2.specs.Sha512.{initial_hash_384, hash_after, Holds}
use Rattle.sha2.specs.Hashers.{Holds384}
use Rattle.td_words.specs.declared.machines.Machine.{Machine}
use Rattle.td_words.specs.Address.{lock_at, word_at}
use Rattle.td_words.specs.Place.{WordPlace, Lock, Pamt, Word, Key, IsIn, address, same_place}
use Rattle.td_words.specs.Laws.{PlacesInjective}
use Rattle.mrtd_measure.specs.declared.measures.Measure.{Measure}
use Rattle.step_core.specs.declared.steps.WordStep.{WordStep}
use Rattle.step_core.specs.declared.steps.WordStep.TheVariants as step
use Rattle.step_core.specs.Words.{Words, after_step, address_of}
use Rattle.step_core.specs.Items.{Table}
use Rattle.leaf_engine.specs.Changes.{Hand, Memory}
use Rattle.leaf_engine.specs.Decides.{IsHand}
use Rattle.leaf_engine.specs.Means.{IsHkid}
use Rattle.leaf_engine.specs.Tables.{IsMemory}
use Rattle.leaf_engine.proofs.Changing.{same_address}

-- the place at an address

pub content_at : ℕ → ℕ → WordPlace
content_at p zero = Lock p
content_at p (suc zero) = Pamt p
content_at p (suc (suc i)) = Word p i

pub place_at : ℕ → ℕ → WordPlace
place_at pages n = cond (nat_lt n (514 * pages)) (content_at (n / 514) (n % 514)) (Key (n - 514 * pages))

below : (a b : ℕ) → a < b → nat_lt a b ≡ true
below a b h = lt-ltb a b h

not-below : (a b : ℕ) → nat_lt (b + a) b ≡ false
not-below a b = grind arith

page-place : (pages p r : ℕ) (q : WordPlace) → p < pages → r < 514 → content_at p r ≡ q → place_at pages (514 * p + r) ≡ q
unfolding place_at
page-place pages p r q h k e =
    let b : nat_lt (514 * p + r) (514 * pages) ≡ true = below (514 * p + r) (514 * pages) (omega (arith, h, k)) in
    let d : (514 * p + r) / 514 ≡ p = omega (arith, k) in
    let m : (514 * p + r) % 514 ≡ r = omega (arith, k) in
    rw (b, d, m) e

place-back : (m : Machine) (q : WordPlace) → IsIn m q → place_at m.pages (address m.pages q) ≡ q
unfolding place_at content_at
place-back m (Lock p) i =
    let e : lock_at p ≡ 514 * p + 0 = omega arith in
    ap (place_at m.pages) e ∙ page-place m.pages p 0 (Lock p) i (omega arith) refl
place-back m (Pamt p) i =
    page-place m.pages p 1 (Pamt p) i (omega arith) refl
place-back m (Word p i) h =
    let k : i < 512 = h.1 in
    let e : word_at p i ≡ 514 * p + suc (suc i) = omega arith in
    ap (place_at m.pages) e ∙ page-place m.pages p (suc (suc i)) (Word p i) h.0 (omega (arith, k)) refl
place-back m (Key k) i =
    let b : nat_lt (514 * m.pages + k) (514 * m.pages) ≡ false = not-below k (514 * m.pages) in
    let d : 514 * m.pages + k - 514 * m.pages ≡ k = omega arith in
    rw (b, d) refl

-- a hasher that has measured these bytes

abbrev hasher_at : List ℕ → Measure
hasher_at bytes = record { core = record { h = hash_after initial_hash_384 bytes (length bytes / 128); buffer = drop (length bytes / 128 * 128) bytes; total = length bytes % 2 ^ 128 } }

measured : (bytes : List ℕ) → Holds384 (hasher_at bytes) bytes
unfolding Holds
measured bytes =
    let left : length (drop (length bytes / 128 * 128) bytes) ≡ length bytes % 128 = omega (arith, length-drop (length bytes / 128 * 128) bytes) in
    (refl, (refl, take_all (length bytes % 128) (drop (length bytes / 128 * 128) bytes) (omega (arith, left))))

abbrev pub hasher_for : Hand → Option Measure
hasher_for None = None
hasher_for (Some bytes) = Some (hasher_at bytes)

pub is-measured : (x : Hand) → IsHand (hasher_for x) x
is-measured None = tt
is-measured (Some bytes) = measured bytes

-- a table with these words, and such hashers in its slots
abbrev pub table_of : Machine → (ℕ → Hand) → (WordPlace → ℕ) → Table
table_of m slots words = record { words = λ n. words (place_at m.pages n); slots = λ k. hasher_for (slots (k + 1)) }

pub holds-memory : (m : Machine) (hasher : Option Measure) (mem : Memory) → IsHand hasher mem.hand → IsMemory m (table_of m mem.slots mem.words) hasher mem
holds-memory m hasher mem is = record { words = λ q i. ap mem.words (place-back m q i); slots = at; hand = is }
  where
    at : (h : ℕ) → IsHkid m h → IsHand (hasher_for (mem.slots (h - 1 + 1))) (mem.slots h)
    at h i =
        let low : 1 ≤ h = i.0 in
        let e : h - 1 + 1 ≡ h = omega (arith, low) in
        subst (λ (k : ℕ). IsHand (hasher_for (mem.slots k)) (mem.slots h)) (sym e) (is-measured (mem.slots h))

-- two tables after one step

pub step-same : (w v : Words) (s : WordStep) (at : ℕ) → address_of s ≡ at → w at ≡ v at → after_step w s at ≡ after_step v s at
step-same w v (step.Load n) at a e = e
step-same w v (step.Store n x) at a e = (let t : (at == n) ≡ true = eq-eqb at n (sym a) in rw t refl)
step-same w v (step.Add n x) at a e = (let t : (at == n) ≡ true = eq-eqb at n (sym a) in let f : w n ≡ v n = ap w a ∙ (e ∙ ap v (sym a)) in rw (t, f) refl)
step-same w v (step.Sub n x) at a e = (let t : (at == n) ≡ true = eq-eqb at n (sym a) in let f : w n ≡ v n = ap w a ∙ (e ∙ ap v (sym a)) in rw (t, f) refl)
step-same w v (step.Exchange n old new) at a e = (let t : (at == n) ≡ true = eq-eqb at n (sym a) in let f : w n ≡ v n = ap w a ∙ (e ∙ ap v (sym a)) in rw (t, f) refl)

pub step-other : (w : Words) (s : WordStep) (at n : ℕ) → address_of s ≡ at → (n == at) ≡ false → after_step w s n ≡ w n
step-other w (step.Load k) at n a e = refl
step-other w (step.Store k x) at n a e = (let t : (n == k) ≡ false = ap (λ (z : ℕ). n == z) a ∙ e in rw t refl)
step-other w (step.Add k x) at n a e = (let t : (n == k) ≡ false = ap (λ (z : ℕ). n == z) a ∙ e in rw t refl)
step-other w (step.Sub k x) at n a e = (let t : (n == k) ≡ false = ap (λ (z : ℕ). n == z) a ∙ e in rw t refl)
step-other w (step.Exchange k old new) at n a e = (let t : (n == k) ≡ false = ap (λ (z : ℕ). n == z) a ∙ e in rw t refl)

pub step-elsewhere : PlacesInjective → (m : Machine) (w : Words) (s : WordStep) (q r : WordPlace) → IsIn m q → IsIn m r → address_of s ≡ address m.pages q → same_place r q ≡ false
    → after_step w s (address m.pages r) ≡ w (address m.pages r)
step-elsewhere inj m w s q r a b e f = step-other w s (address m.pages q) (address m.pages r) e (same_address inj m r q b a ∙ f)
