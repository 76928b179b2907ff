-- MEM.PAGE.RELOCATE as a decision over the words that it is told, and its changes.
use Rattle.std.specs.Prelude.{ℕ, ◌%◌, ◌^◌, ◌==◌, Bool, not, nat_lt, List, [], ◌∷◌}
use Rattle.td_words.specs.declared.names.PageKind.TheVariants as kind
use Rattle.td_words.specs.declared.names.EntryState.{EntryState}
use Rattle.td_words.specs.declared.machines.Machine.{Machine}
use Rattle.td_words.specs.declared.refusals.Status.{Status}
use Rattle.td_words.specs.declared.refusals.Status.TheVariants.{OperandInvalid, PageMetadataIncorrect}
use Rattle.td_words.specs.Packing.{entry_word, pamt_word}
use Rattle.td_words.specs.Place as place
use Rattle.flat_core.specs.Arguments.{level_size}
use Rattle.flat_core.specs.MemRows.{removed_states, unblocked_state, relocate_page}
use Rattle.sept_walk.specs.SecureEpt.{index_at}
use Rattle.leaf_engine.specs.declared.needs.Place.{Place}
use Rattle.leaf_engine.specs.Changes.{Change, Put, Clear, Copy}
use Rattle.leaf_engine.specs.Trees.{Tree, needs, done}
use Rattle.leaf_engine.specs.Means.{Task, OfCall}
use Rattle.leaf_parts.specs.Arguments.{checked}
use Rattle.leaf_parts.specs.HostPages.{host_page_tree}
use Rattle.mem_remove.specs.declared.named_entries.Named.{Named}
use Rattle.mem_remove.specs.NamedTrees.{named_tree}
use Rattle.mem_remove.specs.TrackedTrees.{tracked_tree}

-- The store of the entry is the act: it names the page that has the words by then. Then that page is the TD's, and the one that
-- the entry named is cleared and is the host's. The TD has as many pages as before, so no count is stored.
abbrev pub relocate_changes : (tdr at index : ℕ) → EntryState → (old page : ℕ) → List Change
relocate_changes tdr at index s old page =
    Put (place.Word at index) (entry_word (record { state = unblocked_state s; page = page; mark = 0 }))
    ∷ Put (place.Pamt page) (pamt_word (record { kind = kind.Reg; owner = tdr; epoch = 0 }))
    ∷ Clear old
    ∷ Put (place.Pamt old) 0
    ∷ []

-- before it the words are copied
abbrev pub all_changes : (tdr at index : ℕ) → EntryState → (old page : ℕ) → List Change
all_changes tdr at index s old page = Copy old page ∷ relocate_changes tdr at index s old page

abbrev pub relocate_end : (tdr index page : ℕ) → Named → Tree
relocate_end tdr index page n = done (Copy n.entry.page page ∷ []) (relocate_changes tdr n.page index n.entry.state n.entry.page page)

-- the page is another one than the entry names, and the host's
abbrev pub another_tree : (page old : ℕ) → Tree → Tree
another_tree page old further = needs (not (page == old)) (PageMetadataIncorrect page) (host_page_tree page further)

-- and the block of that one is tracked
abbrev pub relocate_rest : (tdr index page : ℕ) → Named → Tree
relocate_rest tdr index page n = another_tree page n.entry.page (tracked_tree n.tdcs n.entry.page (relocate_end tdr index page n))

abbrev pub relocate_arguments : Machine → (tdr gpa page : ℕ) → List (Bool × Status)
relocate_arguments m tdr gpa page =
    (nat_lt tdr m.pages, OperandInvalid 1)
    ∷ (nat_lt gpa (2 ^ 47), OperandInvalid 2)
    ∷ (nat_lt page m.pages, OperandInvalid 3)
    ∷ (not (page == tdr), OperandInvalid 3)
    ∷ (gpa % level_size 0 == 0, OperandInvalid 2)
    ∷ []

abbrev pub page_relocate_tree : Machine → (tdr gpa page : ℕ) → Tree
page_relocate_tree m tdr gpa page = checked (relocate_arguments m tdr gpa page) (named_tree m.pages tdr gpa 0 removed_states (relocate_rest tdr (index_at 0 gpa) page))

abbrev pub page_relocate_task : Place → (tdr gpa page : ℕ) → Task
page_relocate_task p tdr gpa page = record { place = p; tree = page_relocate_tree p.machine tdr gpa page; meaning = OfCall (relocate_page p.machine tdr gpa page) }
