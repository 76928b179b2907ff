-- The decisions of the beginning of the calls that give a guest its page back, and of plans whose writes go by what was told.
use Rattle.std.proofs.Common.{ℕ, List, Ok, sym, subst}
use Rattle.td_words.specs.declared.names.EntryState.{EntryState}
use Rattle.td_words.specs.declared.names.OpState.{OpState}
use Rattle.td_words.specs.declared.names.Mode.TheVariants.{Exclusive}
use Rattle.td_words.specs.declared.replies.Value.TheVariants as value
use Rattle.td_words.specs.declared.replies.Reply.TheVariants.{Done}
use Rattle.leaf_engine.specs.Changes.{Change}
use Rattle.leaf_engine.specs.Trees.{Tree, feed, changes_of}
use Rattle.leaf_engine.specs.Decides.{Decides}
use Rattle.leaf_engine.proofs.Decided.{decided-changes}
use Rattle.leaf_parts.specs.declared.heads.Td.{Td}
use Rattle.sept_parts.specs.declared.finds.Found.{Found}
use Rattle.sept_parts.specs.SeptTrees.{tree_lock_tree, find_tree}
use Rattle.mem_remove.specs.declared.named_entries.Named.{Named}
use Rattle.mem_remove.specs.NamedTrees.{taken_tree}
use Rattle.export_core.specs.OpenedTrees.{opened_tree}

-- what comes behind each part of the beginning
module _ (n t gpa : ℕ) (ops : List OpState) (allowed : List EntryState) where
  abbrev pub opening : (Named → Tree) → Tree
  opening k = opened_tree n t gpa ops allowed k

  abbrev pub behind_find : ℕ → (Named → Tree) → Found → Tree
  behind_find tdcs k f = taken_tree f.entry allowed (k (record { tdcs = tdcs; page = f.page; entry = f.entry }))

  abbrev pub behind_tree : ℕ → (Named → Tree) → Unit {0} → Tree
  behind_tree tdcs k u = find_tree n t gpa 0 (behind_find tdcs k)

  abbrev pub behind_head : (Named → Tree) → Td → Tree
  behind_head k td = tree_lock_tree t td.tdcs Exclusive (behind_tree td.tdcs k tt)

-- an end that answers nothing has the changes of its tree
pub by-tree : (n : ℕ) (t : Tree) (xs : List ℕ) (cs : List Change) → Decides n t xs (Ok (record { reply = Done value.Nothing; changes = cs })) → Decides n t xs (Ok (record { reply = Done value.Nothing; changes = changes_of (feed t xs) }))
by-tree n t xs cs d = subst (λ (y : List Change). Decides n t xs (Ok (record { reply = Done value.Nothing; changes = y }))) (sym (decided-changes n t xs (record { reply = Done value.Nothing; changes = cs }) d)) d
