-- Lines, words and blanks of a script.
use Rattle.std.specs.Prelude.{ℕ, List, [], ◌∷◌, Bool, true, false, filter, not, length, ◌==◌, ◌&&◌, nat_le, if◌then◌else◌}
use Rattle.std.specs.List.{slice_split, list_all}

-- what stands round the newlines: each line, and at last what stands behind the last newline
abbrev pub pieces : List ℕ → List (List ℕ)
pieces bytes = slice_split (λ b. b == 10) bytes

-- what stands between spaces
abbrev pub words : List ℕ → List (List ℕ)
words line = filter (λ w. not (length w == 0)) (slice_split (λ b. b == 32) line)

-- what stands behind the spaces that a text begins with
abbrev pub without_front_spaces : List ℕ → List ℕ
without_front_spaces [] = []
without_front_spaces (b ∷ bs) = if b == 32 then without_front_spaces bs else b ∷ bs

-- from the space to the tilde
abbrev pub is_printable_byte : ℕ → Bool
is_printable_byte b = nat_le 0x20 b && nat_le b 0x7e

-- a line has such bytes alone
abbrev pub is_printable : List ℕ → Bool
is_printable line = list_all is_printable_byte line

-- a first word that begins with a number sign
abbrev pub is_comment : List ℕ → Bool
is_comment [] = false
is_comment (b ∷ bs) = b == 35

-- no words, or a comment
abbrev pub is_skipped : List (List ℕ) → Bool
is_skipped [] = true
is_skipped (w ∷ ws) = is_comment w
