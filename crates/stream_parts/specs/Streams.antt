-- The streams of a TD, which TDCS lists, and a word of each of their pages.
use Rattle.std.specs.Prelude.{ℕ, zero, suc, ◌+◌, ◌%◌, ◌^◌, nat_lt, if◌then◌else◌, List, [], ◌∷◌, ◌++◌}
use Rattle.td_words.specs.declared.places.TheConstants.{TDCS_STREAM_COUNT, TDCS_STREAMS}
use Rattle.td_words.specs.Place as place
use Rattle.word_rules.specs.Rules.{Whole}
use Rattle.leaf_engine.specs.Trees.{Tree, Load}
use Rattle.leaf_parts.specs.Words.{page_told}
use Rattle.arrayvec.specs.ArrayVec.{ArrayVec}

-- the number of a TD's streams, and 4 where more are told, as never happens
abbrev pub streams_told : ℕ → ℕ
streams_told count = if nat_lt count 4 then count else 4

-- the page of the one of that number
abbrev pub page_tree : (pages tdcs number : ℕ) → (ℕ → Tree) → Tree
page_tree pages tdcs number further = Load Whole (place.Word tdcs (TDCS_STREAMS + number)) (λ stream. further (page_told pages stream))

-- the pages of so many from that number on, behind those before them; and of all
abbrev pub pages_from : (pages tdcs number left : ℕ) → ArrayVec ℕ → (ArrayVec ℕ → Tree) → Tree
pages_from pages tdcs number zero ps further = further ps
pages_from pages tdcs number (suc left) ps further = page_tree pages tdcs number (λ page. pages_from pages tdcs (number + 1) left (record { items = ps.items ++ page ∷ [] }) further)

abbrev pub pages_tree : (pages tdcs : ℕ) → (ArrayVec ℕ → Tree) → Tree
pages_tree pages tdcs further = Load Whole (place.Word tdcs TDCS_STREAM_COUNT) (λ count. pages_from pages tdcs 0 (streams_told count) (record { items = [] }) further)

-- the sum of a word of each of these pages, with what came before, modulo 2^64
abbrev pub sum_from : (at : ℕ) → List ℕ → (sum : ℕ) → (ℕ → Tree) → Tree
sum_from at [] sum further = further sum
sum_from at (p ∷ ps) sum further = Load Whole (place.Word p at) (λ word. sum_from at ps ((sum + word) % 2 ^ 64) further)

abbrev pub sum_tree : (at : ℕ) → List ℕ → (ℕ → Tree) → Tree
sum_tree at ps further = sum_from at ps 0 further
