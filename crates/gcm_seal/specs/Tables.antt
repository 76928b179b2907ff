-- The tables of products of a hash key, and a text into which the key stream is mixed block by block: steps of a proof,
-- which no public contract cites.
use Rattle.std.specs.Prelude.{◌≡◌, ℕ, zero, suc, ◌+◌, ◌*◌, ◌/◌, ◌%◌, ◌<◌, ◌≤◌, List, [], length, bit_xor, slice_index, slice_index_or}
use Rattle.aes_block.specs.Aes.{sixteen, cipher}
use Rattle.gcm_seal.specs.Gcm.{times, times_x, counter_block}

-- v times x^n
unfoldable pub raised : ℕ → ℕ → ℕ
raised zero v = v
raised (suc n) v = raised n (times_x v)

-- v times each four bits
abbrev pub table_of : ℕ → List ℕ
table_of v = sixteen (λ e. times 4 e v)

-- the first n tables are those of h times x^0, x^4, x^8 and so on
abbrev pub AreTables : List (List ℕ) → ℕ → ℕ → Type 0
AreTables ts h n = (j : ℕ) → j < n → slice_index_or ts j [] ≡ table_of (raised (4 * j) h)

-- the text t is the text `from` with the first n blocks of the key stream mixed in
abbrev pub IsMixedTo : List ℕ → List ℕ → List ℕ → List ℕ → ℕ → Type 0
IsMixedTo key iv from t n = (length t ≡ length from)
    × ((k : ℕ) → k < 16 * n → k < length from → slice_index t k
    ≡ bit_xor (slice_index from k) (slice_index (cipher key (counter_block iv (k / 16 + 2))) (k % 16)))
    × ((k : ℕ) → 16 * n ≤ k → slice_index t k ≡ slice_index from k)
