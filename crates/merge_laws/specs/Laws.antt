-- The law of merges.
use Rattle.std.specs.Prelude.{◌≡◌, ℕ, ◌<◌, ◌≤◌, None, List, [], ◌++◌, length}
use Rattle.td_words.specs.declared.machines.Machine.{Machine}
use Rattle.flat_core.specs.World.{Made, put}
use Rattle.flat_core.specs.Opening.{Opening}
use Rattle.flat_core.specs.Event.{State, start, lines_left}
use Rattle.flat_core.specs.Run.{play, run, bundles_in}
use Rattle.word_rules.specs.Cells.{Shows}
use Rattle.step_core.specs.Items.{Table, PlaysTo}
use Rattle.leaf_engine.specs.Changes.{Memory}
use Rattle.leaf_engine.specs.Besides.{beside_of}
use Rattle.leaf_engine.specs.Tables.{IsMemory}
use Rattle.leaf_engine.specs.OwnLists.{LeafTable, WordLp}
use Rattle.leaf_engine.specs.Following.{StandsOn}
use Rattle.leaf_engine.specs.Merges.{Item, steps_taken, order, no_table, AreLeaves, AreCodes}
use Rattle.merge_laws.specs.Merge.{Merge}

-- the words and slots of a table show a state
pub record IsShownBy (m : Machine) (u : Table) (s : State) : Type 0 where
  pub memory : Memory
  pub is : IsMemory m u None memory
  pub shows : Shows m memory.words memory.slots s

-- the lists of bundles of all processors are merged into one, which grows by those that one of them made
pub data AreMerged : (ℕ → List Made) → List Made → Type 0 where
  nothing_made : AreMerged (λ p. []) []
  more_made : (own : ℕ → List Made) (all : List Made) (p : ℕ) (bundles : List Made) → AreMerged own all → AreMerged (put own p (own p ++ bundles)) (all ++ bundles)

-- all bundles are those that the first n processors made, and no other made one
pub record AreBundlesOf (n : ℕ) (now : ℕ → WordLp) (all : List Made) : Type 0 where
  pub own : ℕ → List Made
  pub each : (p : ℕ) → p < n → own p ≡ (now p).beside.bundles
  pub none_else : (p : ℕ) → n ≤ p → own p ≡ []
  pub merged : AreMerged own all

-- and each processor is where the state says: the lines that are left, the replies, the guest, the translations, the notes
-- and the told words; and the bundles are theirs
pub record IsWhere (o : Opening) (now : ℕ → WordLp) (s : State) : Type 0 where
  pub lines : (p : ℕ) → p < length o.calls → lines_left o p (s.lps p) ≡ (now p).lines
  pub replies : (p : ℕ) → p < length o.calls → (s.lps p).replies ≡ (now p).replies
  pub beside : (p : ℕ) → p < length o.calls → beside_of (s.lps p) (now p).beside.bundles ≡ (now p).beside
  pub bundles : AreBundlesOf (length o.calls) now (bundles_in s)

-- A merge is a run of the flat machine: its events, in the order in which they stand in the merge, lead to a state that
-- its words show, and to where its processors are. Where each has come to its last line's end, that is where the whole run
-- ends. No swap misses: the items play as on a table that nobody else uses. And on the table where the merge leads each
-- processor stands, in its call or its guest, where the state has it.
pub record MergesAreRuns : Type 0 where
  pub none_misses : (o : Opening) (leaf : ℕ → LeafTable) (is : List Item) (now : ℕ → WordLp) (u : Table) → length o.calls ≤ 8 → AreLeaves o leaf → AreCodes o → Merge o leaf is now u
      → PlaysTo no_table (steps_taken is) u
  pub turns : (o : Opening) (leaf : ℕ → LeafTable) (is : List Item) (now : ℕ → WordLp) (u : Table) → length o.calls ≤ 8 → AreLeaves o leaf → AreCodes o → Merge o leaf is now u
      → let s = play o (order is) (start o None) in IsShownBy o.machine u s × IsWhere o now s
  pub stand : (o : Opening) (leaf : ℕ → LeafTable) (is : List Item) (now : ℕ → WordLp) (u : Table) → length o.calls ≤ 8 → AreLeaves o leaf → AreCodes o → Merge o leaf is now u
      → (p : ℕ) → p < length o.calls → StandsOn o (leaf p) p (play o (order is) (start o None)) u (now p)
  pub ended : (o : Opening) (leaf : ℕ → LeafTable) (is : List Item) (now : ℕ → WordLp) (u : Table) → length o.calls ≤ 8 → AreLeaves o leaf → AreCodes o → Merge o leaf is now u
      → ((p : ℕ) → p < length o.calls → (now p).lines ≡ []) → let s = run o (order is) in IsShownBy o.machine u s × IsWhere o now s
