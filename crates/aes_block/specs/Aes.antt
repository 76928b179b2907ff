-- AES-256 (FIPS 197) on lists of numbers. A byte is a number below 256, whose bit i is the coefficient of x^i. A word is
-- a list of 4 bytes, and a state a list of 16 bytes, column by column.
use Rattle.std.specs.Prelude.{ℕ, zero, suc, ◌+◌, ◌-◌, ◌*◌, ◌/◌, ◌%◌, ◌^◌, List, [], ◌∷◌, ◌++◌, bit_xor, slice_index, slice_index_or}

-- ---- the field of 256 elements (FIPS 197, "Mathematical Preliminaries")

-- a times x, modulo x^8 + x^4 + x^3 + x + 1
abbrev pub xtime : ℕ → ℕ
xtime a = bit_xor (a * 2 % 256) (a / 128 * 0x1b)

-- the sum of a times x^i over the set bits i of b, of n bits
abbrev pub times_bits : ℕ → ℕ → ℕ → ℕ
times_bits zero a b = 0
times_bits (suc n) a b = bit_xor (b % 2 * a) (times_bits n (xtime a) (b / 2))

-- the product of two bytes
abbrev pub times : ℕ → ℕ → ℕ
times b a = times_bits 8 a b

-- a to the power 2^(n + 1) - 1
abbrev pub power_ones : ℕ → ℕ → ℕ
power_ones zero a = a
power_ones (suc n) a = times a (let half = power_ones n a in times half half)

-- the multiplicative inverse, which is a^254, and 0 for 0
abbrev pub inverse : ℕ → ℕ
inverse a = let half = power_ones 6 a in times half half

-- ---- the S-box (FIPS 197, "SubBytes()")

-- a byte whose bit i + k, modulo 8, is bit i of a
abbrev pub rotate_byte : ℕ → ℕ → ℕ
rotate_byte a k = a * 2 ^ k % 256 + a / 2 ^ (8 - k)

-- the affine map: bit i is the sum of bits i, i + 4, i + 5, i + 6 and i + 7, modulo 8, and of bit i of 0x63
abbrev pub affine : ℕ → ℕ
affine a = bit_xor (bit_xor (bit_xor (bit_xor (bit_xor a (rotate_byte a 1)) (rotate_byte a 2)) (rotate_byte a 3)) (rotate_byte a 4)) 0x63

-- the S-box: the inverse, and then the affine map
unfoldable pub sub : ℕ → ℕ
sub a = affine (inverse a)

-- ---- the steps of a round (FIPS 197, "Cipher")

-- f k, .., f (k + n - 1)
abbrev pub tabulate : {A : Type 0} → ℕ → ℕ → (ℕ → A) → List A
tabulate k zero f = []
tabulate k (suc n) f = f k ∷ tabulate (k + 1) n f

-- f 0, .., f 15
abbrev pub sixteen : (ℕ → ℕ) → List ℕ
sixteen f = tabulate 0 16 f

-- SubBytes
abbrev pub sub_bytes : List ℕ → List ℕ
sub_bytes s = sixteen (λ k. sub (slice_index s k))

-- ShiftRows: byte r of column c is byte r of column c + r
abbrev pub shift_rows : List ℕ → List ℕ
shift_rows s = sixteen (λ k. slice_index s (k % 4 + 4 * ((k / 4 + k % 4) % 4)))

-- the byte j below byte k, round in its column
abbrev pub below : List ℕ → ℕ → ℕ → ℕ
below s k j = slice_index s (k / 4 * 4 + (k % 4 + j) % 4)

-- MixColumns
abbrev pub mix_columns : List ℕ → List ℕ
mix_columns s = sixteen (λ k. bit_xor (bit_xor (bit_xor (times 2 (below s k 0)) (times 3 (below s k 1))) (below s k 2)) (below s k 3))

-- AddRoundKey
abbrev pub add_round_key : List ℕ → List ℕ → List ℕ
add_round_key s k = sixteen (λ p. bit_xor (slice_index s p) (slice_index k p))

-- ---- the key schedule, of 8 words of key and 14 rounds (FIPS 197, "Key Expansion")

-- SubWord
abbrev pub sub_word : List ℕ → List ℕ
sub_word w = sub (slice_index w 0) ∷ sub (slice_index w 1) ∷ sub (slice_index w 2) ∷ sub (slice_index w 3) ∷ []

-- RotWord
abbrev pub rotate_word : List ℕ → List ℕ
rotate_word w = slice_index w 1 ∷ slice_index w 2 ∷ slice_index w 3 ∷ slice_index w 0 ∷ []

-- the sum of two words
abbrev pub xor_word : List ℕ → List ℕ → List ℕ
xor_word a b = bit_xor (slice_index a 0) (slice_index b 0) ∷ bit_xor (slice_index a 1) (slice_index b 1)
    ∷ bit_xor (slice_index a 2) (slice_index b 2) ∷ bit_xor (slice_index a 3) (slice_index b 3) ∷ []

-- x to the power n
abbrev pub power_of_x : ℕ → ℕ
power_of_x zero = 1
power_of_x (suc n) = xtime (power_of_x n)

-- word i of a list of words
abbrev pub word : List (List ℕ) → ℕ → List ℕ
word ws i = slice_index_or ws i []

-- what is added to word i - 8 to give word i: the word w before it, stirred by the remainder of i by 8
abbrev pub stirred : List ℕ → ℕ → ℕ → List ℕ
stirred w i zero = xor_word (sub_word (rotate_word w)) (power_of_x (i / 8 - 1) ∷ 0 ∷ 0 ∷ 0 ∷ [])
stirred w i (suc (suc (suc (suc zero)))) = sub_word w
stirred w i _ = w

-- the first 8 + n words of the schedule
unfoldable pub schedule : List ℕ → ℕ → List (List ℕ)
schedule key zero = tabulate 0 8 (λ i. slice_index key (4 * i) ∷ slice_index key (4 * i + 1) ∷ slice_index key (4 * i + 2) ∷ slice_index key (4 * i + 3) ∷ [])
schedule key (suc n) = let ws = schedule key n in
    ws ++ xor_word (word ws n) (stirred (word ws (n + 7)) (n + 8) ((n + 8) % 8)) ∷ []

-- the key of round r
abbrev pub round_key : List (List ℕ) → ℕ → List ℕ
round_key ws r = sixteen (λ k. slice_index (word ws (4 * r + k / 4)) (k % 4))

-- ---- the cipher (FIPS 197, "Cipher")

-- the state after n rounds of s
unfoldable pub rounds : List (List ℕ) → List ℕ → ℕ → List ℕ
rounds ws s zero = add_round_key s (round_key ws 0)
rounds ws s (suc n) = add_round_key (mix_columns (shift_rows (sub_bytes (rounds ws s n)))) (round_key ws (n + 1))

-- the block s under the key
unfoldable pub cipher : List ℕ → List ℕ → List ℕ
cipher key s = let ws = schedule key 52 in
    add_round_key (shift_rows (sub_bytes (rounds ws s 13))) (round_key ws 14)
