-- MEM.RANGE.BLOCK and MEM.RANGE.UNBLOCK as decisions over the words that they are told.
use Rattle.std.specs.Prelude.{ℕ, zero, suc, ◌%◌, ◌^◌, ◌==◌, nat_lt, nat_le, List, [], ◌∷◌}
use Rattle.td_words.specs.declared.names.EntryState.{EntryState}
use Rattle.td_words.specs.declared.names.PageKind.{PageKind}
use Rattle.td_words.specs.declared.names.PageKind.TheVariants as kind
use Rattle.td_words.specs.declared.machines.Machine.{Machine}
use Rattle.td_words.specs.declared.places.TheConstants.{TDCS_EPOCH}
use Rattle.td_words.specs.declared.refusals.Status.TheVariants.{OperandInvalid}
use Rattle.td_words.specs.Packing.{entry_word, pamt_word}
use Rattle.td_words.specs.Place as place
use Rattle.flat_core.specs.Arguments.{level_size}
use Rattle.flat_core.specs.MemRows.{open_states, blocked_states, blocked_state, unblocked_state, block_range, unblock_range}
use Rattle.sept_walk.specs.SecureEpt.{index_at}
use Rattle.word_rules.specs.Rules.{Whole}
use Rattle.leaf_engine.specs.declared.needs.Place.{Place}
use Rattle.leaf_engine.specs.Changes.{Change, Put}
use Rattle.leaf_engine.specs.Trees.{Tree, Load, needs, done}
use Rattle.leaf_engine.specs.Means.{Task, OfCall}
use Rattle.mem_remove.specs.declared.named_entries.Named.{Named}
use Rattle.mem_remove.specs.NamedTrees.{named_tree}
use Rattle.mem_remove.specs.TrackedTrees.{tracked_tree}

-- the arguments
abbrev pub range_arguments : Machine → (tdr gpa level : ℕ) → Tree → Tree
range_arguments m tdr gpa level further =
    needs (nat_lt tdr m.pages) (OperandInvalid 1)
    (needs (nat_lt gpa (2 ^ 47)) (OperandInvalid 2)
    (needs (nat_le level 3) (OperandInvalid 3)
    (needs (gpa % level_size level == 0) (OperandInvalid 2) further)))

-- what an entry of a level names: a private page, or a secure EPT page
abbrev pub kind_below : ℕ → PageKind
kind_below zero = kind.Reg
kind_below (suc level) = kind.Ept

-- the entry gets another state for the page that it names
abbrev pub state_change : (at index page : ℕ) → EntryState → Change
state_change at index page s = Put (place.Word at index) (entry_word (record { state = s; page = page; mark = 0 }))

-- the entry that is blocked is the act; then the page's PAMT word notes TD_EPOCH
abbrev pub block_changes : (tdr level at index page : ℕ) → EntryState → (epoch : ℕ) → List Change
block_changes tdr level at index page s epoch =
    state_change at index page (blocked_state s)
    ∷ Put (place.Pamt page) (pamt_word (record { kind = kind_below level; owner = tdr; epoch = epoch % 2 ^ 32 }))
    ∷ []

abbrev pub block_rest : (tdr level index : ℕ) → Named → Tree
block_rest tdr level index n = Load Whole (place.Word n.tdcs TDCS_EPOCH) (λ epoch. done [] (block_changes tdr level n.page index n.entry.page n.entry.state epoch))

abbrev pub block_map : Machine → (tdr gpa level : ℕ) → Tree
block_map m tdr gpa level = named_tree m.pages tdr gpa level open_states (block_rest tdr level (index_at level gpa))

abbrev pub range_block_task : Place → (tdr gpa level : ℕ) → Task
range_block_task p tdr gpa level = record { place = p; tree = range_arguments p.machine tdr gpa level (block_map p.machine tdr gpa level); meaning = OfCall (block_range p.machine tdr gpa level) }

-- the entry is no longer blocked; what its page's PAMT word notes stays
abbrev pub unblock_changes : (at index page : ℕ) → EntryState → List Change
unblock_changes at index page s = state_change at index page (unblocked_state s) ∷ []

abbrev pub unblock_rest : ℕ → Named → Tree
unblock_rest index n = tracked_tree n.tdcs n.entry.page (done [] (unblock_changes n.page index n.entry.page n.entry.state))

abbrev pub unblock_map : Machine → (tdr gpa level : ℕ) → Tree
unblock_map m tdr gpa level = named_tree m.pages tdr gpa level blocked_states (unblock_rest (index_at level gpa))

abbrev pub range_unblock_task : Place → (tdr gpa level : ℕ) → Task
range_unblock_task p tdr gpa level = record { place = p; tree = range_arguments p.machine tdr gpa level (unblock_map p.machine tdr gpa level); meaning = OfCall (unblock_range p.machine tdr gpa level) }
