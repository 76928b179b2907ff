-- A step on the bytes as a step on the states.
use Rattle.std.proofs.Common.{sym, slice_index, slice_index_or, ◌≡◌, ◌∙◌, ◌∷◌, [], ℕ, ◌<◌, List, ap, bit_xor}
use Rattle.aes_block.specs.Aes.{times, xtime, mix_columns, add_round_key}
use Rattle.aes_block.specs.declared.planes.Planes.{Planes}
use Rattle.aes_block.specs.Planes.{block_at, byte_at, turned, bits8, bits_at, lanes16, byte8}
use Rattle.aes_block.proofs.Bits.{lane_bit-lt}
use Rattle.aes_block.proofs.Bytes.{byte8-lt, mixed, byte8-back}
use Rattle.aes_block.proofs.Sixteen.{sixteen_same, below_eight}

-- plane i
abbrev pub plane : Planes → ℕ → List ℕ
plane q i = slice_index_or (q.p0 ∷ q.p1 ∷ q.p2 ∷ q.p3 ∷ q.p4 ∷ q.p5 ∷ q.p6 ∷ q.p7 ∷ []) i []

-- what is made of bits is a byte
pub byte_at-lt : (q : Planes) (p i : ℕ) → byte_at q p i < 256
byte_at-lt q p i = byte8-lt _ _ _ _ _ _ _ _ (lane_bit-lt q.p0 p i) (lane_bit-lt q.p1 p i) (lane_bit-lt q.p2 p i) (lane_bit-lt q.p3 p i)
    (lane_bit-lt q.p4 p i) (lane_bit-lt q.p5 p i) (lane_bit-lt q.p6 p i) (lane_bit-lt q.p7 p i)

-- a byte of each column by fewer operations is that of MixColumns
pub mixed_columns : (q m : Planes) (i : ℕ)
    → ((p : ℕ) → p < 16 → byte_at m p i ≡ bit_xor (xtime (bit_xor (byte_at q p i) (byte_at q (turned 1 p) i)))
    (bit_xor (byte_at q (turned 1 p) i) (bit_xor (byte_at q (turned 2 p) i) (byte_at q (turned 3 p) i))))
    → block_at m i ≡ mix_columns (block_at q i)
mixed_columns q m i each =
    sixteen_same (λ p. byte_at m p i)
    (λ p. bit_xor (bit_xor (bit_xor (times 2 (byte_at q p i)) (times 3 (byte_at q (turned 1 p) i))) (byte_at q (turned 2 p) i)) (byte_at q (turned 3 p) i))
    (λ p h. each p h ∙ mixed (byte_at q p i) (byte_at q (turned 1 p) i) (byte_at q (turned 2 p) i) (byte_at q (turned 3 p) i) (byte_at-lt q p i) (byte_at-lt q (turned 1 p) i))

-- bytes added at each place are the round key added
pub added : (q k m : Planes) (i : ℕ) → ((p : ℕ) → p < 16 → byte_at m p i ≡ bit_xor (byte_at q p i) (byte_at k p i))
    → block_at m i ≡ add_round_key (block_at q i) (block_at k i)
added q k m i each = sixteen_same (λ p. byte_at m p i) (λ p. bit_xor (byte_at q p i) (byte_at k p i)) each

-- what `transpose` says of one byte
abbrev pub Transposed : Planes → Planes → ℕ → Type 0
Transposed t q p = (bits8 t.p0 p ≡ bits_at q p 0) × (bits8 t.p1 p ≡ bits_at q p 1)
    × (bits8 t.p2 p ≡ bits_at q p 2) × (bits8 t.p3 p ≡ bits_at q p 3)
    × (bits8 t.p4 p ≡ bits_at q p 4) × (bits8 t.p5 p ≡ bits_at q p 5)
    × (bits8 t.p6 p ≡ bits_at q p 6) × (bits8 t.p7 p ≡ bits_at q p 7)

-- a transposed plane is a lane
transposed : (t q : Planes) (p : ℕ) → Transposed t q p → (i : ℕ) → i < 8 → bits_at t p i ≡ bits8 (plane q i) p
transposed t q p (e0, e1, e2, e3, e4, e5, e6, e7) =
    below_eight (λ i. bits_at t p i ≡ bits8 (plane q i) p)
    (λ j. slice_index (e0 j) 0 ∷ slice_index (e1 j) 0 ∷ slice_index (e2 j) 0 ∷ slice_index (e3 j) 0 ∷ slice_index (e4 j) 0 ∷ slice_index (e5 j) 0 ∷ slice_index (e6 j) 0 ∷ slice_index (e7 j) 0 ∷ [])
    (λ j. slice_index (e0 j) 1 ∷ slice_index (e1 j) 1 ∷ slice_index (e2 j) 1 ∷ slice_index (e3 j) 1 ∷ slice_index (e4 j) 1 ∷ slice_index (e5 j) 1 ∷ slice_index (e6 j) 1 ∷ slice_index (e7 j) 1 ∷ [])
    (λ j. slice_index (e0 j) 2 ∷ slice_index (e1 j) 2 ∷ slice_index (e2 j) 2 ∷ slice_index (e3 j) 2 ∷ slice_index (e4 j) 2 ∷ slice_index (e5 j) 2 ∷ slice_index (e6 j) 2 ∷ slice_index (e7 j) 2 ∷ [])
    (λ j. slice_index (e0 j) 3 ∷ slice_index (e1 j) 3 ∷ slice_index (e2 j) 3 ∷ slice_index (e3 j) 3 ∷ slice_index (e4 j) 3 ∷ slice_index (e5 j) 3 ∷ slice_index (e6 j) 3 ∷ slice_index (e7 j) 3 ∷ [])
    (λ j. slice_index (e0 j) 4 ∷ slice_index (e1 j) 4 ∷ slice_index (e2 j) 4 ∷ slice_index (e3 j) 4 ∷ slice_index (e4 j) 4 ∷ slice_index (e5 j) 4 ∷ slice_index (e6 j) 4 ∷ slice_index (e7 j) 4 ∷ [])
    (λ j. slice_index (e0 j) 5 ∷ slice_index (e1 j) 5 ∷ slice_index (e2 j) 5 ∷ slice_index (e3 j) 5 ∷ slice_index (e4 j) 5 ∷ slice_index (e5 j) 5 ∷ slice_index (e6 j) 5 ∷ slice_index (e7 j) 5 ∷ [])
    (λ j. slice_index (e0 j) 6 ∷ slice_index (e1 j) 6 ∷ slice_index (e2 j) 6 ∷ slice_index (e3 j) 6 ∷ slice_index (e4 j) 6 ∷ slice_index (e5 j) 6 ∷ slice_index (e6 j) 6 ∷ slice_index (e7 j) 6 ∷ [])
    (λ j. slice_index (e0 j) 7 ∷ slice_index (e1 j) 7 ∷ slice_index (e2 j) 7 ∷ slice_index (e3 j) 7 ∷ slice_index (e4 j) 7 ∷ slice_index (e5 j) 7 ∷ slice_index (e6 j) 7 ∷ slice_index (e7 j) 7 ∷ [])

-- planes made of blocks hold them
pub planes_of : (t q : Planes) (i : ℕ) → i < 8 → ((p : ℕ) → p < 16 → Transposed t q p)
    → ((p : ℕ) → p < 16 → slice_index (plane q i) p < 256) → block_at t i ≡ lanes16 (plane q i)
planes_of t q i k each fit =
    sixteen_same (λ p. byte_at t p i) (λ p. slice_index (plane q i) p)
    (λ p h. ap byte8 (transposed t q p (each p h) i k) ∙ byte8-back (slice_index (plane q i) p) (fit p h))

-- blocks made of planes are those that they hold
pub blocks_of : (t q : Planes) (i : ℕ) → i < 8 → ((p : ℕ) → p < 16 → Transposed t q p)
    → ((p : ℕ) → p < 16 → slice_index (plane t i) p < 256) → lanes16 (plane t i) ≡ block_at q i
blocks_of t q i k each fit =
    sixteen_same (λ p. slice_index (plane t i) p) (λ p. byte_at q p i)
    (λ p h. sym (byte8-back (slice_index (plane t i) p) (fit p h)) ∙ ap byte8 (row p h i k))
  where
    row : (p : ℕ) → p < 16 → (i : ℕ) → i < 8 → bits8 (plane t i) p ≡ bits_at q p i
    row p h = let e = each p h in below_eight (λ i. bits8 (plane t i) p ≡ bits_at q p i) e.0 e.1 e.2 e.3 e.4 e.5 e.6 e.7
