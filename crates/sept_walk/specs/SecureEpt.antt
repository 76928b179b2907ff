-- The secure EPT as it lies in memory. A page of it holds 512 entries: the root's are of level 3, and an entry that is
-- NL_MAPPED names the page of the 512 entries below it (Base Architecture, "Secure EPT"). What memory has is a function
-- from page and index to the entry that stands there.
use Rattle.std.specs.Prelude.{ℕ, zero, suc, ◌-◌, ◌%◌, List, [], ◌∷◌, Bool, if◌then◌else◌}
use Rattle.td_words.specs.declared.names.EntryState.TheVariants as entry
use Rattle.td_words.specs.Packing.{Entry}
use Rattle.flat_core.specs.Tree.{number_at, same_state, levels_above}
use Rattle.sept_walk.specs.declared.walks.Walked.{Walked}
use Rattle.sept_walk.specs.declared.walks.Walked.TheVariants.{Found, Failed}

-- where the entry of a level that maps a GPA stands in its page: nine bits of the GPA, from bit 12 at level 0 to bit 39
-- at level 3
abbrev pub index_at : ℕ → ℕ → ℕ
index_at level gpa = number_at level gpa % 512

-- the page that the entries which map a GPA lead to, so many levels below the root
abbrev pub page_below : (ℕ → ℕ → Entry) → (root gpa : ℕ) → ℕ → ℕ
page_below entries root gpa zero = root
page_below entries root gpa (suc n) = (entries (page_below entries root gpa n) (index_at (3 - n) gpa)).page

-- the entry of a level that maps a GPA
abbrev pub entry_below : (ℕ → ℕ → Entry) → (root gpa level : ℕ) → Entry
entry_below entries root gpa level = entries (page_below entries root gpa (3 - level)) (index_at level gpa)

abbrev pub is_mapped_on : Entry → Bool
is_mapped_on e = same_state e.state entry.NlMapped

-- A walk to an entry passes over each entry above it that is NL_MAPPED, and fails at the first that isn't.
abbrev pub passes : (ℕ → Entry) → ℕ → List ℕ → Walked
passes at level [] = Found (at level)
passes at level (l ∷ ls) = if is_mapped_on (at l) then passes at level ls else Failed l

-- what a walk from a root to the entry of a level ends with (Base Architecture, "Secure EPT Walk")
abbrev pub walk_end : (ℕ → ℕ → Entry) → (root gpa level : ℕ) → Walked
walk_end entries root gpa level = passes (entry_below entries root gpa) level (levels_above level)
