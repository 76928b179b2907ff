-- Addresses of words.
use Rattle.std.specs.Prelude.{ℕ, ◌+◌, ◌*◌}

-- page p's lock word
abbrev pub lock_at : ℕ → ℕ
lock_at p = 514 * p

-- page p's PAMT word
abbrev pub pamt_at : ℕ → ℕ
pamt_at p = 514 * p + 1

-- content word i of page p, for i below 512
abbrev pub word_at : ℕ → ℕ → ℕ
word_at p i = 514 * p + 2 + i

-- word k of the key table of a machine with so many pages
abbrev pub key_at : ℕ → ℕ → ℕ
key_at pages k = 514 * pages + k
