-- EXPORT.BLOCKW and EXPORT.UNBLOCKW as decisions over the words that they are told.
use Rattle.std.specs.Prelude.{ℕ, ◌+◌, ◌%◌, ◌^◌, Bool, not, ◌==◌, if◌then◌else◌, List, [], ◌∷◌}
use Rattle.td_words.specs.declared.names.EntryState.{EntryState}
use Rattle.td_words.specs.declared.names.EntryState.TheVariants as entry
use Rattle.td_words.specs.declared.names.OpState.{OpState}
use Rattle.td_words.specs.declared.names.PageKind.TheVariants as kind
use Rattle.td_words.specs.declared.names.Mode.TheVariants.{Shared, Exclusive}
use Rattle.td_words.specs.declared.machines.Machine.{Machine}
use Rattle.td_words.specs.declared.places.TheConstants.{TDCS_EPOCH, TDCS_DIRTIED}
use Rattle.td_words.specs.declared.refusals.Status.TheVariants.{EptEntryStateIncorrect}
use Rattle.td_words.specs.Packing.{pamt_word}
use Rattle.td_words.specs.Place as place
use Rattle.flat_core.specs.Processor.{OfPage}
use Rattle.flat_core.specs.ExportRows.{live_ops, writable_states, write_blocked, block_write, write_blocked_states, write_unblocked, is_first_dirt, unblock_write}
use Rattle.sept_walk.specs.SecureEpt.{index_at}
use Rattle.word_rules.specs.Rules.{Whole, ThePage}
use Rattle.word_rules.specs.Views.{no_page}
use Rattle.leaf_engine.specs.declared.needs.Place.{Place}
use Rattle.leaf_engine.specs.Changes.{Change, Put}
use Rattle.leaf_engine.specs.Trees.{Tree, Lock, Load, needs, done}
use Rattle.leaf_engine.specs.Means.{Task, OfCall}
use Rattle.leaf_parts.specs.Words.{page_told}
use Rattle.leaf_parts.specs.Heads.{td_head_tree}
use Rattle.sept_parts.specs.SeptTrees.{tree_lock_tree, root_page_tree, walk_tree, entry_tree, state_tree}
use Rattle.mem_remove.specs.declared.named_entries.Named.{Named}
use Rattle.mem_remove.specs.NamedTrees.{epoch_lock_tree}
use Rattle.mem_remove.specs.RemoveTrees.{remove_arguments as page_arguments}
use Rattle.export_core.specs.declared.write_blocks.Blocking.{Blocking}
use Rattle.export_core.specs.declared.write_blocks.Unblocking.{Unblocking}
use Rattle.export_core.specs.OpenedTrees.{opened_tree, restated}

-- The whole entry, once the page that it names alone is held: its state stays from then on.
abbrev pub held_tree : (pages tdcs gpa at : ℕ) → List EntryState → (page : ℕ) → (Named → Tree) → Tree
held_tree pages tdcs gpa at allowed p further =
    Lock (OfPage p) (place.Lock p) Exclusive
    (entry_tree pages at gpa 0 (λ e. state_tree e allowed (further (record { tdcs = tdcs; page = at; entry = e }))))

-- the page is told first, under the map that is shared
abbrev pub page_tree : (pages gpa at : ℕ) → (ℕ → Tree) → Tree
page_tree pages gpa at further = Load ThePage (place.Word at (index_at 0 gpa)) (λ p. needs (not (p == no_page)) (EptEntryStateIncorrect entry.Free) (further (page_told pages p)))

-- the secure EPT page in which the entry stands, under T and E
abbrev pub shared_walk : (pages t gpa tdcs : ℕ) → (ℕ → Tree) → Tree
shared_walk pages t gpa tdcs further = tree_lock_tree t tdcs Shared (epoch_lock_tree t tdcs Shared (root_page_tree pages t (λ root. walk_tree pages root gpa 0 further)))

abbrev pub writable_tree : (pages t gpa : ℕ) → List OpState → List EntryState → (Named → Tree) → Tree
writable_tree pages t gpa ops allowed further =
    td_head_tree pages t Shared ops (λ td. shared_walk pages t gpa td.tdcs (λ at. page_tree pages gpa at (λ p. held_tree pages td.tdcs gpa at allowed p further)))

-- the entry that lets nobody write is the act; then the page's PAMT word notes TD_EPOCH
abbrev pub block_write_changes : (tdr at index page : ℕ) → EntryState → (mark epoch : ℕ) → List Change
block_write_changes tdr at index page s mark epoch =
    restated at index page (write_blocked s) mark
    ∷ Put (place.Pamt page) (pamt_word (record { kind = kind.Reg; owner = tdr; epoch = epoch % 2 ^ 32 }))
    ∷ []

abbrev pub blocking_changes : (tdr index : ℕ) → Blocking → List Change
blocking_changes tdr index b = block_write_changes tdr b.entry.page index b.entry.entry.page b.entry.entry.state b.entry.entry.mark b.epoch

abbrev pub block_write_rest : (tdr index : ℕ) → Named → Tree
block_write_rest tdr index n = Load Whole (place.Word n.tdcs TDCS_EPOCH) (λ epoch. done [] (block_write_changes tdr n.page index n.entry.page n.entry.state n.entry.mark epoch))

abbrev pub block_write_map : Machine → (tdr gpa : ℕ) → Tree
block_write_map m tdr gpa = writable_tree m.pages tdr gpa live_ops writable_states (block_write_rest tdr (index_at 0 gpa))

abbrev pub block_write_task : Place → (tdr gpa : ℕ) → Task
block_write_task p tdr gpa = record { place = p; tree = page_arguments p.machine tdr gpa (block_write_map p.machine tdr gpa); meaning = OfCall (block_write p.machine tdr gpa) }

-- pages dirtied, with one more where the entry becomes dirty
abbrev pub dirtied_word : Bool → ℕ → ℕ
dirtied_word first dirtied = if first then (dirtied + 1) % 2 ^ 64 else dirtied

-- the entry that lets the guest write again is the act; then pages dirtied are counted
abbrev pub unblock_write_changes : (tdcs at index page : ℕ) → EntryState → (mark dirtied : ℕ) → List Change
unblock_write_changes tdcs at index page s mark dirtied =
    restated at index page (write_unblocked s) mark ∷ Put (place.Word tdcs TDCS_DIRTIED) (dirtied_word (is_first_dirt s) dirtied) ∷ []

abbrev pub unblocking_changes : (index : ℕ) → Unblocking → List Change
unblocking_changes index u = unblock_write_changes u.entry.tdcs u.entry.page index u.entry.entry.page u.entry.entry.state u.entry.entry.mark u.dirtied

abbrev pub unblock_write_rest : (index : ℕ) → Named → Tree
unblock_write_rest index n = Load Whole (place.Word n.tdcs TDCS_DIRTIED) (λ dirtied. done [] (unblock_write_changes n.tdcs n.page index n.entry.page n.entry.state n.entry.mark dirtied))

abbrev pub unblock_write_map : Machine → (tdr gpa : ℕ) → Tree
unblock_write_map m tdr gpa = opened_tree m.pages tdr gpa live_ops write_blocked_states (unblock_write_rest (index_at 0 gpa))

abbrev pub unblock_write_task : Place → (tdr gpa : ℕ) → Task
unblock_write_task p tdr gpa = record { place = p; tree = page_arguments p.machine tdr gpa (unblock_write_map p.machine tdr gpa); meaning = OfCall (unblock_write p.machine tdr gpa) }
