-- The decisions of the beginning of the call that blocks writing.
use Rattle.std.proofs.Common.{ℕ, List}
use Rattle.td_words.specs.declared.names.EntryState.{EntryState}
use Rattle.td_words.specs.declared.names.OpState.{OpState}
use Rattle.td_words.specs.declared.names.Mode.TheVariants.{Shared}
use Rattle.td_words.specs.Packing.{Entry}
use Rattle.leaf_engine.specs.Trees.{Tree}
use Rattle.leaf_parts.specs.declared.heads.Td.{Td}
use Rattle.sept_parts.specs.SeptTrees.{root_page_tree, walk_tree, state_tree}
use Rattle.mem_remove.specs.declared.named_entries.Named.{Named}
use Rattle.mem_remove.specs.NamedTrees.{epoch_lock_tree}
use Rattle.export_core.specs.WriteTrees.{held_tree, page_tree, shared_walk, writable_tree}

-- what comes behind each part
module _ (n t gpa : ℕ) where
  abbrev pub behind_root : (ℕ → Tree) → ℕ → Tree
  behind_root k root = walk_tree n root gpa 0 k

  abbrev pub behind_epoch : (ℕ → Tree) → Unit {0} → Tree
  behind_epoch k u = root_page_tree n t (behind_root k)

  abbrev pub behind_tree : ℕ → (ℕ → Tree) → Unit {0} → Tree
  behind_tree tdcs k u = epoch_lock_tree t tdcs Shared (behind_epoch k tt)

  abbrev pub walking : ℕ → (ℕ → Tree) → Tree
  walking tdcs k = shared_walk n t gpa tdcs k

module _ (n t gpa : ℕ) (ops : List OpState) (allowed : List EntryState) where
  abbrev pub behind_page : ℕ → ℕ → (Named → Tree) → ℕ → Tree
  behind_page tdcs at k p = held_tree n tdcs gpa at allowed p k

  abbrev pub behind_walk : ℕ → (Named → Tree) → ℕ → Tree
  behind_walk tdcs k at = page_tree n gpa at (behind_page tdcs at k)

  abbrev pub behind_head : (Named → Tree) → Td → Tree
  behind_head k td = shared_walk n t gpa td.tdcs (behind_walk td.tdcs k)

  abbrev pub writing : (Named → Tree) → Tree
  writing k = writable_tree n t gpa ops allowed k

-- the entry, once its page is held
module _ (n tdcs gpa at : ℕ) (allowed : List EntryState) where
  abbrev pub behind_entry : (Named → Tree) → Entry → Tree
  behind_entry k e = state_tree e allowed (k (record { tdcs = tdcs; page = at; entry = e }))

  abbrev pub holding : ℕ → (Named → Tree) → Tree
  holding p k = held_tree n tdcs gpa at allowed p k
