-- The words of the key schedule.
use Rattle.std.proofs.Common.{◌≡◌, ℕ, zero, suc, ◌+◌, ◌-◌, ◌*◌, ◌%◌, ◌<◌, ◌≤◌, true, List, [], ◌∷◌, refl, sym, ap, ◌∙◌, arith, length, length-append, slice_index, get_or, ◌≢◌, get_or-set_same, get_or-set_other, below_more}
use Rattle.std.proofs.lemmas.List.{get_or_append_left, get_or_push}
use Rattle.std.proofs.Math.ListN.{set}
use Rattle.aes_block.proofs.Sixteen.{below_eight}
use Rattle.std.proofs.lemmas.Bool.{eqb-true}
use Rattle.std.proofs.Math.Dec.{eqb}
use Rattle.aes_block.specs.Aes.{power_of_x, schedule, word, stirred, xor_word}
use Rattle.aes_block.specs.Planes.{lanes16}
use Rattle.aes_block.specs.declared.key_schedules.TheConstants.{ROUND_CONSTANTS}
use Rattle.aes_block.proofs.Every.{every, every-at}

constants : every 7 (λ k. eqb (slice_index ROUND_CONSTANTS (k + 1)) (power_of_x k)) ≡ true
constants = refl

pub constant_is : (n : ℕ) → 0 < n → n < 8 → slice_index ROUND_CONSTANTS n ≡ power_of_x (n - 1)
constant_is n low high =
    let e : n - 1 + 1 ≡ n = omega arith in
    let t = eqb-true _ _ (every-at 7 (λ k. eqb (slice_index ROUND_CONSTANTS (k + 1)) (power_of_x k)) constants (n - 1) (omega arith)) in
    ap (slice_index ROUND_CONSTANTS) (sym e) ∙ t

pub schedule-length : (key : List ℕ) (n : ℕ) → length (schedule key n) ≡ n + 8
unfolding schedule
schedule-length key zero = refl
schedule-length key (suc n) =
    let before = schedule-length key n in
    omega (arith, before, length-append (schedule key n) (xor_word (word (schedule key n) n) (stirred (word (schedule key n) (n + 7)) (n + 8) ((n + 8) % 8)) ∷ []))

-- two lists with the same elements are equal
pub list_same : {A : Type 0} (d : A) (xs ys : List A) → length xs ≡ length ys → ((i : ℕ) → i < length xs → get_or xs i d ≡ get_or ys i d) → xs ≡ ys
list_same d [] [] e each = refl
list_same d [] (y ∷ ys) e each = absurd (omega arith)
list_same d (x ∷ xs) [] e each = absurd (omega arith)
list_same {A} d (x ∷ xs) (y ∷ ys) e each =
    let tails : length xs ≡ length ys = omega arith in
    let head : x ≡ y = each 0 (omega arith) in
    let rest : xs ≡ ys = list_same d xs ys tails (λ i h. each (suc i) (omega arith)) in
    λ j. head j ∷ rest j

-- word i of the key
pub key_word : (key : List ℕ) (i : ℕ) → i < 8
    → slice_index key (4 * i) ∷ slice_index key (4 * i + 1) ∷ slice_index key (4 * i + 2) ∷ slice_index key (4 * i + 3) ∷ [] ≡ word (schedule key 0) i
unfolding schedule
key_word key = below_eight (λ i. slice_index key (4 * i) ∷ slice_index key (4 * i + 1) ∷ slice_index key (4 * i + 2) ∷ slice_index key (4 * i + 3) ∷ [] ≡ word (schedule key 0) i)
    refl refl refl refl refl refl refl refl

-- one word more
pub grown : (key : List ℕ) (w : List (List ℕ)) (i : ℕ) (x : List ℕ) → 8 ≤ i → i < length w
    → ((k : ℕ) → k < i → word w k ≡ word (schedule key (i - 8)) k)
    → x ≡ xor_word (word w (i - 8)) (stirred (word w (i - 1)) i (i % 8))
    → (k : ℕ) → k < i + 1 → word (set w i x) k ≡ word (schedule key (i + 1 - 8)) k
unfolding schedule
grown key w i x low room before here =
    let n : ℕ = i - 8 in
    let ws : List (List ℕ) = schedule key n in
    let y : List ℕ = xor_word (word ws n) (stirred (word ws (n + 7)) (n + 8) ((n + 8) % 8)) in
    let long = schedule-length key n in
    let next : i + 1 - 8 ≡ suc n = omega arith in
    let place : i ≡ n + 8 = omega arith in
    let last : i - 1 ≡ n + 7 = omega arith in
    let p : word w (i - 1) ≡ word ws (n + 7) = before (i - 1) (omega arith) ∙ ap (word ws) last in
    let q : word w (i - 8) ≡ word ws n = before n (omega arith) in
    let same : x ≡ y = here ∙ (λ j. xor_word (q j) (stirred (p j) (place j) (place j % 8))) in
    let end : (k : ℕ) → word (schedule key (suc n)) k ≡ word (schedule key (i + 1 - 8)) k = λ k. ap (λ m. word (schedule key m) k) (sym next) in
    below_more _ i
    (λ k h. let ne : k ≢ i = omega arith in
    get_or-set_other w i k x [] ne ∙ before k h ∙ sym (get_or_append_left ws (y ∷ []) [] k (omega (arith, long))) ∙ end k)
    (get_or-set_same w i x [] room ∙ same ∙ sym (get_or_push ws y [] i (omega (arith, long))) ∙ end i)

-- a list of 16 is its 16 elements
pub sixteen_is : (v : List ℕ) → length v ≡ 16 → lanes16 v ≡ v
sixteen_is (a0 ∷ a1 ∷ a2 ∷ a3 ∷ a4 ∷ a5 ∷ a6 ∷ a7 ∷ a8 ∷ a9 ∷ a10 ∷ a11 ∷ a12 ∷ a13 ∷ a14 ∷ a15 ∷ []) e = refl
sixteen_is _ e = absurd (omega arith)
