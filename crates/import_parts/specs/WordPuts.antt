-- Words of a payload that are stored one after another in a page.
use Rattle.std.specs.Prelude.{ℕ, zero, suc, ◌+◌, List, [], ◌∷◌}
use Rattle.td_words.specs.Place as place
use Rattle.leaf_engine.specs.Changes.{Change, Put}

-- so many of them from one on; the first of all has its place in the page
abbrev pub put_words : (page at : ℕ) → (words : ℕ → ℕ) → (from left : ℕ) → List Change
put_words page at words from zero = []
put_words page at words from (suc left) = Put (place.Word page (at + from)) (words from) ∷ put_words page at words (from + 1) left
