-- EXPORT.RESTORE as a decision over the words that it is told.
use Rattle.std.specs.Prelude.{ℕ, if◌then◌else◌, List, [], ◌∷◌}
use Rattle.td_words.specs.declared.names.EntryState.{EntryState}
use Rattle.td_words.specs.declared.names.EntryState.TheVariants as entry
use Rattle.td_words.specs.declared.machines.Machine.{Machine}
use Rattle.td_words.specs.declared.places.TheConstants.{TDCS_DIRTIED, TDCS_UNRESTORED}
use Rattle.td_words.specs.Packing.{is_exported}
use Rattle.td_words.specs.Place as place
use Rattle.flat_core.specs.Exports.{is_dirty}
use Rattle.flat_core.specs.ExportRows.{restoring_ops, restored_states, one_less, restore}
use Rattle.sept_walk.specs.SecureEpt.{index_at}
use Rattle.word_rules.specs.Rules.{Whole}
use Rattle.leaf_engine.specs.declared.needs.Place.{Place}
use Rattle.leaf_engine.specs.Changes.{Change, Put}
use Rattle.leaf_engine.specs.Trees.{Tree, Load, done}
use Rattle.leaf_engine.specs.Means.{Task, OfCall}
use Rattle.leaf_parts.specs.Words.{lowered}
use Rattle.mem_remove.specs.declared.named_entries.Named.{Named}
use Rattle.mem_remove.specs.RemoveTrees.{remove_arguments as page_arguments}
use Rattle.export_core.specs.declared.restores.Restored.{Restored}
use Rattle.export_core.specs.OpenedTrees.{opened_tree, restated}

-- pages dirtied and unrestored entries, with one less where the entry was dirty, and exported
abbrev pub left_dirtied : EntryState → ℕ → ℕ
left_dirtied s dirtied = if is_dirty s then lowered dirtied else dirtied

abbrev pub left_unrestored : EntryState → ℕ → ℕ
left_unrestored s unrestored = if is_exported s then one_less unrestored else unrestored

-- the entry that is as if it was never exported is the act; then both are counted
abbrev pub restore_changes : (tdcs at index page : ℕ) → EntryState → (dirtied unrestored : ℕ) → List Change
restore_changes tdcs at index page s dirtied unrestored =
    restated at index page entry.Mapped 0
    ∷ Put (place.Word tdcs TDCS_DIRTIED) (left_dirtied s dirtied)
    ∷ Put (place.Word tdcs TDCS_UNRESTORED) (left_unrestored s unrestored)
    ∷ []

abbrev pub restore_rest : (index : ℕ) → Named → Tree
restore_rest index n =
    Load Whole (place.Word n.tdcs TDCS_DIRTIED) (λ dirtied.
    Load Whole (place.Word n.tdcs TDCS_UNRESTORED) (λ unrestored.
    done [] (restore_changes n.tdcs n.page index n.entry.page n.entry.state dirtied unrestored)))

abbrev pub restore_map : Machine → (tdr gpa : ℕ) → Tree
restore_map m tdr gpa = opened_tree m.pages tdr gpa restoring_ops restored_states (restore_rest (index_at 0 gpa))

abbrev pub restore_task : Place → (tdr gpa : ℕ) → Task
restore_task p tdr gpa = record { place = p; tree = page_arguments p.machine tdr gpa (restore_map p.machine tdr gpa); meaning = OfCall (restore p.machine tdr gpa) }

-- the changes of what was told
abbrev pub restored_changes : (index : ℕ) → Restored → List Change
restored_changes index r = restore_changes r.entry.tdcs r.entry.page index r.entry.entry.page r.entry.entry.state r.dirtied r.unrestored
