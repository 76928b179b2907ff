-- Eight blocks side by side in eight planes: bit i of lane p of plane b is bit b of byte p of block i. Of these
-- definitions the public contracts cite `lanes16` and `HasKey` alone.
use Rattle.std.specs.Prelude.{◌≡◌, ℕ, ◌+◌, ◌-◌, ◌*◌, ◌/◌, ◌%◌, ◌<◌, List, [], ◌∷◌, slice_index, slice_index_or, nat_eq, if◌then◌else◌}
use Rattle.std.specs.Int.{bit_at}
use Rattle.aes_block.specs.declared.planes.Planes.{Planes}
use Rattle.aes_block.specs.declared.ciphers.Aes256.{Aes256}
use Rattle.aes_block.specs.Aes.{tabulate, sixteen, round_key, schedule}

-- bit i of lane p of a vector
abbrev pub lane_bit : List ℕ → ℕ → ℕ → ℕ
lane_bit v p i = bit_at (slice_index v p) i

-- the bits at one place of the first n vectors of a list
abbrev pub bits_of : ℕ → List (List ℕ) → ℕ → ℕ → List ℕ
bits_of n vs p i = tabulate 0 n (λ k. lane_bit (slice_index_or vs k []) p i)

-- the bits of byte p of block i
abbrev pub bits_at : Planes → ℕ → ℕ → List ℕ
bits_at q p i =
    lane_bit q.p0 p i ∷ lane_bit q.p1 p i ∷ lane_bit q.p2 p i ∷ lane_bit q.p3 p i
    ∷ lane_bit q.p4 p i ∷ lane_bit q.p5 p i ∷ lane_bit q.p6 p i ∷ lane_bit q.p7 p i ∷ []

-- the number with these bits, the lowest first
abbrev pub byte8 : List ℕ → ℕ
byte8 b = slice_index b 0 + 2 * (slice_index b 1 + 2 * (slice_index b 2 + 2 * (slice_index b 3
    + 2 * (slice_index b 4 + 2 * (slice_index b 5 + 2 * (slice_index b 6 + 2 * slice_index b 7))))))

-- byte p of block i
abbrev pub byte_at : Planes → ℕ → ℕ → ℕ
byte_at q p i = byte8 (bits_at q p i)

-- block i
abbrev pub block_at : Planes → ℕ → List ℕ
block_at q i = sixteen (λ p. byte_at q p i)

-- the bits of lane p
abbrev pub bits8 : List ℕ → ℕ → List ℕ
bits8 v p = tabulate 0 8 (λ i. lane_bit v p i)

-- of each 2 * k bits of x and y, the low k of x and then of y; the high k of x and then of y
abbrev pub lows : ℕ → List ℕ → List ℕ → List ℕ
lows k x y = tabulate 0 8 (λ i. if nat_eq (i / k % 2) 0 then slice_index x i else slice_index y (i - k))

abbrev pub highs : ℕ → List ℕ → List ℕ → List ℕ
highs k x y = tabulate 0 8 (λ i. if nat_eq (i / k % 2) 0 then slice_index x (i + k) else slice_index y i)

-- byte p, turned by j in its column
abbrev pub turned : ℕ → ℕ → ℕ
turned j p = p / 4 * 4 + (p % 4 + j) % 4

-- where ShiftRows takes byte p from
abbrev pub shifted : ℕ → ℕ
shifted p = p % 4 + 4 * ((p / 4 + p % 4) % 4)

-- the 16 lanes of a vector
abbrev pub lanes16 : List ℕ → List ℕ
lanes16 v = sixteen (λ p. slice_index v p)

-- the first n planes hold the key's round keys, in each block
abbrev pub AreKeys : List Planes → List ℕ → ℕ → Type 0
AreKeys ks key n = (r i : ℕ) (none : Planes) → r < n → i < 8 → block_at (slice_index_or ks r none) i ≡ round_key (schedule key 52) r

-- the key schedule `a` is that of the key, a list of 32 bytes
unfoldable pub HasKey : Aes256 → List ℕ → Type 0
HasKey a key = AreKeys a.keys key 15
