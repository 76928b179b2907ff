-- Memory holds the map of a TD where its words show the flat machine, so walks of memory are walks of the map.
use Rattle.std.specs.Prelude.{◌≡◌, ℕ, ◌-◌, ◌^◌, ◌<◌, ◌≤◌, Option, None, List, [], ◌∷◌, ◌++◌, length}
use Rattle.td_words.specs.declared.machines.Machine.{Machine}
use Rattle.td_words.specs.declared.places.TheConstants.{TDR_ROOT}
use Rattle.td_words.specs.declared.replies.Reply.{Reply}
use Rattle.td_words.specs.Place as place
use Rattle.flat_core.specs.Opening.{Opening}
use Rattle.flat_core.specs.Event.{State, start}
use Rattle.flat_core.specs.Run.{play}
use Rattle.flat_core.specs.Lawful.{IsAlive}
use Rattle.flat_core.specs.Row as row
use Rattle.flat_core.specs.Tree.{walk}
use Rattle.sept_walk.specs.declared.walks.Walked.{Walked}
use Rattle.sept_walk.specs.Maps.{HoldsMap, map_end, row_behind}
use Rattle.sept_walk.specs.Steps.{walk_from}
use Rattle.sept_walk.specs.Laws.{told_at_most}
use Rattle.mrtd_measure.specs.declared.measures.Measure.{Measure}
use Rattle.step_core.specs.Items.{Table}
use Rattle.leaf_engine.specs.Changes.{Memory}
use Rattle.leaf_engine.specs.Tables.{IsMemory}
use Rattle.leaf_engine.specs.OwnLists.{LeafTable, WordLp}
use Rattle.leaf_engine.specs.Merges.{Item, order, AreLeaves, AreCodes}
use Rattle.merge_laws.specs.Merge.{Merge}
use Rattle.map_laws.specs.SeptMaps.{ShowsTd, entries_of, entries_on}

-- the TDR page of the TD names the root (Base Architecture, "TD Root (TDR)")
abbrev pub RootsAreNamed : Type 0
RootsAreNamed = (m : Machine) (mem : Memory) (s : State) (t root : ℕ) → ShowsTd m mem s t root → mem.words (place.Word t TDR_ROOT) ≡ root

-- memory holds the TD's map: the root its entries of level 3, and the page that an NL_MAPPED entry names those below it
abbrev pub MapsAreHeld : Type 0
MapsAreHeld = (m : Machine) (mem : Memory) (s : State) (t root : ℕ) → ShowsTd m mem s t root → HoldsMap (entries_of m.pages mem.words) root s.world t

-- what a walk comes to that is told what a table has, entry by entry, from the root down to the entry of a level that
-- maps a GPA
abbrev pub table_walk : Machine → Table → (root gpa level : ℕ) → Walked
table_walk m u root gpa level = told_at_most (4 - level) (entries_on m.pages u) (walk_from root gpa level)

-- Over a table that is such memory a walk ends with the entry that the flat machine has of the TD, or with the first level
-- whose entry isn't NL_MAPPED; and a row that walks goes on where that walk finds its entry, and is refused with the level
-- where it fails.
pub record WalksFollow : Type 0 where
  pub ends : (m : Machine) (mem : Memory) (s : State) (t root gpa level : ℕ) (u : Table) (hasher : Option Measure)
      → ShowsTd m mem s t root → IsMemory m u hasher mem → gpa < 2 ^ 47 → level ≤ 3 → table_walk m u root gpa level ≡ map_end s.world t gpa level
  pub rows : (m : Machine) (mem : Memory) (s : State) (t root gpa level : ℕ) (u : Table) (hasher : Option Measure) (granted : ℕ) (rest : List (row.Item Reply))
      → ShowsTd m mem s t root → IsMemory m u hasher mem → gpa < 2 ^ 47 → level ≤ 3
      → row.next (walk s.world t gpa level ++ rest) granted ≡ row_behind (table_walk m u root gpa level) (row.next rest granted)

-- After each merge of word steps, turn by turn, the table is such memory: a walk over it ends as the flat machine's map of
-- the TD says, after a run of the events of the merge.
abbrev pub WalksFollowMerges : Type 0
WalksFollowMerges = (o : Opening) (leaf : ℕ → LeafTable) (is : List Item) (now : ℕ → WordLp) (u : Table) → o.machine.pages ≤ 1024 → length o.calls ≤ 8 → AreLeaves o leaf → AreCodes o → Merge o leaf is now u
    → let w = (play o (order is) (start o None)).world in (t tdcs root gpa level : ℕ) → IsAlive w.pages w.tds t → w.tds.controls t ≡ tdcs ∷ root ∷ [] → gpa < 2 ^ 47 → level ≤ 3
    → table_walk o.machine u root gpa level ≡ map_end w t gpa level
