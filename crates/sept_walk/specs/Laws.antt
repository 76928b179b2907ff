-- A walk ends with what the secure EPT in memory says, and where that holds a TD's map, with what the map says.
use Rattle.std.specs.Prelude.{◌≡◌, ◌≢◌, ℕ, zero, suc, ◌+◌, ◌-◌, ◌*◌, ◌^◌, ◌<◌, ◌≤◌, List, ◌++◌}
use Rattle.td_words.specs.Address.{word_at}
use Rattle.td_words.specs.Packing.{Entry}
use Rattle.td_words.specs.declared.replies.Reply.{Reply}
use Rattle.flat_core.specs.World.{World}
use Rattle.flat_core.specs.Row.{Item, next}
use Rattle.flat_core.specs.Tree.{number_at, walk}
use Rattle.sept_walk.specs.declared.walks.Walked.{Walked}
use Rattle.sept_walk.specs.declared.walks.Walked.TheVariants.{More, Found, Failed}
use Rattle.sept_walk.specs.Seen.{Walk}
use Rattle.sept_walk.specs.SecureEpt.{index_at, walk_end}
use Rattle.sept_walk.specs.Steps.{walk_from, address_of, answer_to, walk_after}
use Rattle.sept_walk.specs.Maps.{HoldsMap, map_end, row_behind}

-- a walk that asks for more is told on
abbrev pub or_on : Walked → Walked → Walked
or_on More later = later
or_on (Found e) later = Found e
or_on (Failed l) later = Failed l

-- a walk that is told at most so many entries, each the one that memory has at the address that it asks for
abbrev pub told_at_most : ℕ → (ℕ → Entry) → Walk → Walked
told_at_most zero memory k = More
told_at_most (suc n) memory k =
    or_on (answer_to k (memory (address_of k))) (told_at_most n memory (walk_after k (memory (address_of k))))

-- the entries that memory has, by page and index
abbrev pub entries_in : (ℕ → Entry) → ℕ → ℕ → Entry
entries_in memory page index = memory (word_at page index)

-- whatever memory has, a walk ends after one entry of each level from the root's to the wanted one, or before, and as the
-- secure EPT says
pub record WalksFind : Type 0 where
  pub find : (memory : ℕ → Entry) (root gpa level : ℕ) → level ≤ 3
      → told_at_most (4 - level) memory (walk_from root gpa level) ≡ walk_end (entries_in memory) root gpa level
  pub ends : (entries : ℕ → ℕ → Entry) (root gpa level : ℕ) → walk_end entries root gpa level ≢ More

-- An entry's index in its page and the number of the entry above give its number; the root has no entry above.
pub record NumbersSplit : Type 0 where
  pub index : (level gpa : ℕ) → index_at level gpa < 512
  pub root : (gpa : ℕ) → gpa < 2 ^ 47 → number_at 3 gpa ≡ index_at 3 gpa
  pub below : (level gpa : ℕ) → level < 3 → number_at level gpa ≡ 512 * number_at (suc level) gpa + index_at level gpa

-- Where memory holds a TD's map, a walk ends as the map says; and a row that walks goes on behind its walk exactly where
-- that one finds its entry.
pub record WalksMeetMaps : Type 0 where
  pub maps : (entries : ℕ → ℕ → Entry) (root : ℕ) (w : World) (t gpa level : ℕ) → HoldsMap entries root w t → gpa < 2 ^ 47 → level ≤ 3
      → walk_end entries root gpa level ≡ map_end w t gpa level
  pub rows : (w : World) (t gpa level granted : ℕ) (rest : List (Item Reply))
      → next (walk w t gpa level ++ rest) granted ≡ row_behind (map_end w t gpa level) (next rest granted)
