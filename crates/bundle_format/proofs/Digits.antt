-- The bytes of the number that bytes make are these bytes.
use Rattle.std.proofs.Common.{◌/◌, ◌%◌, ◌≡◌, ◌∙◌, ◌<◌, ◌≤◌, ◌+◌, ◌*◌, ◌^◌, ℕ, zero, suc, List, [], ◌∷◌, ◌++◌, length, drop, slice_index, refl, sym, ap, subst, arith}
use Rattle.std.proofs.Math.Nat.{div-div-eq-div-mul, div-one, pow-succ'}
use Rattle.std.proofs.lemmas.List.{drop-drop, length-drop, get_or-drop}
use Rattle.std.specs.Int.{byte_at, bytes_low_first}
use Rattle.byteorder.specs.Endian.{little_from, little_bytes, little_number}
use Rattle.byteorder.specs.Numbers.{little_from-cons}

byte_at-pow : (k x : ℕ) → byte_at k x ≡ x / 256 ^ k % 256
byte_at-pow zero x = ap (λ (y : ℕ). y % 256) (sym (div-one x))
byte_at-pow (suc k) x = refl

byte_at-next : (k x : ℕ) → byte_at (suc k) x ≡ byte_at k (x / 256)
byte_at-next k x =
    let shift : x / 256 ^ suc k ≡ x / 256 / 256 ^ k = ap (λ (p : ℕ). x / p) (pow-succ' 256 k) ∙ sym (div-div-eq-div-mul x 256 (256 ^ k)) in
    byte_at-pow (suc k) x ∙ ap (λ (y : ℕ). y % 256) shift ∙ sym (byte_at-pow k (x / 256))

bytes-next : (k n x : ℕ) → bytes_low_first (suc k) n x ≡ bytes_low_first k n (x / 256)
bytes-next k zero x = refl
bytes-next k (suc n) x = λ i. byte_at-next k x i ∷ bytes-next (suc k) n x i

pub bytes_back : (n : ℕ) (xs : List ℕ) → n ≤ length xs → ((i : ℕ) → slice_index xs i < 256) → little_bytes n (little_number n xs) ++ drop n xs ≡ xs
bytes_back zero xs h b = refl
bytes_back (suc n) [] h b = absurd (omega arith)
bytes_back (suc n) (a ∷ xs) h b =
    let above : ℕ = little_from 1 n (a ∷ xs) in
    let small : a < 256 = b 0 in
    let low : (a + 256 * above) % 256 ≡ a = omega arith in
    let high : (a + 256 * above) / 256 ≡ above = omega arith in
    let digits : bytes_low_first 1 n (a + 256 * above) ≡ bytes_low_first 0 n (little_from 0 n xs) =
    bytes-next 0 n (a + 256 * above) ∙ ap (bytes_low_first 0 n) (high ∙ little_from-cons 0 n a xs) in
    let rest = bytes_back n xs (omega arith) (λ i. b (suc i)) in
    (λ j. low j ∷ (digits j ++ drop n xs)) ∙ ap (λ (l : List ℕ). a ∷ l) rest

-- the same from a place on
pub bytes_from : (n at : ℕ) (xs : List ℕ) → at + n ≤ length xs → ((i : ℕ) → slice_index xs i < 256)
    → little_bytes n (little_number n (drop at xs)) ++ drop (at + n) xs ≡ drop at xs
bytes_from n at xs h b =
    let room : n ≤ length (drop at xs) = omega (arith, length-drop at xs) in
    ap (λ (l : List ℕ). little_bytes n (little_number n (drop at xs)) ++ l) (sym (drop-drop n at xs))
    ∙ bytes_back n (drop at xs) room (λ i. subst (λ (x : ℕ). x < 256) (sym (get_or-drop at xs i 0)) (b (at + i)))
