-- What holds of a list in pieces, one taken in after another, holds of their concatenation.
use Rattle.std.proofs.Common.{ℕ, List, ◌++◌}
use Rattle.std.proofs.lemmas.List.{append_assoc}

pub four_pieces : (P : List ℕ → Type 0) (m a b c d : List ℕ) → P ((((m ++ a) ++ b) ++ c) ++ d) → P (m ++ (a ++ (b ++ (c ++ d))))
four_pieces P m a b c d h = simp append_assoc at h

pub five_pieces : (P : List ℕ → Type 0) (m a b c d e : List ℕ) → P (((((m ++ a) ++ b) ++ c) ++ d) ++ e) → P (m ++ ((a ++ (b ++ (c ++ d))) ++ e))
five_pieces P m a b c d e h = simp append_assoc (simp append_assoc at h)
