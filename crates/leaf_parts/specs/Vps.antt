-- A word of each virtual processor of a TD, which TDCS lists.
use Rattle.std.specs.Prelude.{ℕ, zero, suc, ◌+◌, not, ◌==◌, List, [], ◌∷◌}
use Rattle.td_words.specs.declared.places.TheConstants.{TDCS_VP_COUNT, TDCS_VPS}
use Rattle.td_words.specs.Place as place
use Rattle.flat_core.specs.Locks.{one_if}
use Rattle.word_rules.specs.Rules.{Whole}
use Rattle.leaf_engine.specs.Trees.{Tree, Load}
use Rattle.leaf_parts.specs.declared.vp_words.VpWord.{VpWord}
use Rattle.leaf_parts.specs.Words.{page_told, vps_told}

-- that word of the one of that number
abbrev pub vp_tree : (pages : ℕ) → VpWord → (number : ℕ) → (ℕ → Tree) → Tree
vp_tree pages asked number further = Load Whole (place.Word asked.tdcs (TDCS_VPS + number)) (λ vp. Load Whole (place.Word (page_told pages vp) asked.at) further)

-- how many have another word there, of those from that number on, and of those before them
abbrev pub vps_from : (pages : ℕ) → VpWord → (number left apart : ℕ) → (ℕ → Tree) → Tree
vps_from pages asked number zero apart further = further apart
vps_from pages asked number (suc left) apart further = vp_tree pages asked number (λ word. vps_from pages asked (number + 1) left (apart + one_if (not (word == asked.word))) further)

abbrev pub vps_tree : (pages : ℕ) → VpWord → (ℕ → Tree) → Tree
vps_tree pages asked further = Load Whole (place.Word asked.tdcs TDCS_VP_COUNT) (λ count. vps_from pages asked 0 (vps_told count) 0 further)

-- how many of these have another word there, where each has that one
abbrev pub apart_in : (said : ℕ → ℕ) → (word : ℕ) → List ℕ → ℕ
apart_in said word [] = 0
apart_in said word (v ∷ vs) = one_if (not (said v == word)) + apart_in said word vs
