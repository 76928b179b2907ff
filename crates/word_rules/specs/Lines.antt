-- Tables of a control page's words: one line a word, or a run of words.
use Rattle.std.specs.Prelude.{ℕ, ◌+◌, ◌-◌, ◌==◌, ◌&&◌, nat_lt, nat_le, if◌then◌else◌, Option, Some, None, List, [], ◌∷◌}

pub data Line (A : Type 0) : Type 0 where
  At : (place : ℕ) (value : A) → Line A
  Run : (place count : ℕ) (values : ℕ → Option A) → Line A

-- what a table says of word i
abbrev pub in_lines : {A : Type 0} → List (Line A) → ℕ → Option A
in_lines [] i = None
in_lines (At place x ∷ rest) i = if i == place then Some x else in_lines rest i
in_lines (Run place count xs ∷ rest) i = if nat_le place i && nat_lt i (place + count) then xs (i - place) else in_lines rest i
