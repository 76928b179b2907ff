-- Digests of SHA-384: 48 bytes, which stand in memory as six little-endian words.
use Rattle.std.specs.Prelude.{ℕ, ◌*◌, List, [], ◌∷◌, ◌++◌, take, drop}
use Rattle.std.specs.Int.{w64, from_le_bytes, to_le_bytes}

-- the word of that number among a digest's
abbrev pub digest_word : List ℕ → ℕ → ℕ
digest_word bytes k = from_le_bytes w64 (take 8 (drop (8 * k) bytes))

-- the bytes of words
abbrev pub digest_bytes : List ℕ → List ℕ
digest_bytes [] = []
digest_bytes (x ∷ xs) = to_le_bytes w64 x ++ digest_bytes xs

-- the six words of a digest
abbrev pub six_words : (ℕ → ℕ) → List ℕ
six_words ws = ws 0 ∷ ws 1 ∷ ws 2 ∷ ws 3 ∷ ws 4 ∷ ws 5 ∷ []
