-- The beginning of the calls that block, unblock and remove, as a decision over the words that it is told.
use Rattle.std.specs.Prelude.{ℕ, List}
use Rattle.td_words.specs.declared.names.EntryState.{EntryState}
use Rattle.td_words.specs.declared.names.Mode.{Mode}
use Rattle.td_words.specs.declared.names.Mode.TheVariants.{Shared, Exclusive}
use Rattle.td_words.specs.declared.places.TheConstants.{TDCS_EPOCH_LOCK}
use Rattle.td_words.specs.Packing.{Entry}
use Rattle.td_words.specs.Place as place
use Rattle.flat_core.specs.Processor.{OfPage, OfEpoch}
use Rattle.flat_core.specs.Conditions.{blocking_ops}
use Rattle.leaf_engine.specs.Trees.{Tree, Lock}
use Rattle.leaf_parts.specs.Heads.{td_head_tree}
use Rattle.sept_parts.specs.SeptTrees.{tree_lock_tree, find_tree, state_tree}
use Rattle.mem_remove.specs.declared.named_entries.Named.{Named}

-- TD_EPOCH is held in that mode
abbrev pub epoch_lock_tree : (t tdcs : ℕ) → Mode → Tree → Tree
epoch_lock_tree t tdcs mode further = Lock (OfEpoch t) (place.Word tdcs TDCS_EPOCH_LOCK) mode further

-- an entry is in one of these states, and the page that it names is held alone
abbrev pub taken_tree : Entry → List EntryState → Tree → Tree
taken_tree e allowed further = state_tree e allowed (Lock (OfPage e.page) (place.Lock e.page) Exclusive further)

-- the map is held alone, TD_EPOCH stays, the entry is in one of these states, and the page that it names is held alone
abbrev pub named_tree : (pages t gpa level : ℕ) → List EntryState → (Named → Tree) → Tree
named_tree pages t gpa level allowed further =
    td_head_tree pages t Shared blocking_ops (λ td.
    tree_lock_tree t td.tdcs Exclusive
    (epoch_lock_tree t td.tdcs Shared
    (find_tree pages t gpa level (λ f.
    taken_tree f.entry allowed (further (record { tdcs = td.tdcs; page = f.page; entry = f.entry }))))))
