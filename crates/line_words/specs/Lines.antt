-- How a line is written.
use Rattle.std.specs.Prelude.{ℕ, List, [], ◌∷◌, ◌++◌}

-- words, each behind a space
abbrev pub words_text : List (List ℕ) → List ℕ
words_text [] = []
words_text (w ∷ ws) = 32 ∷ (w ++ words_text ws)

-- the words of a line, each behind a space but the first, then a newline
abbrev pub line_text : List ℕ → List (List ℕ) → List ℕ
line_text word words = (word ++ words_text words) ++ 10 ∷ []
