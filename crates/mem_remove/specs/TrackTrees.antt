-- MEM.TRACK as a decision over the words that it is told.
use Rattle.std.specs.Prelude.{ℕ, ◌+◌, ◌-◌, ◌^◌, ◌==◌, nat_lt, List, [], ◌∷◌}
use Rattle.td_words.specs.declared.names.Counter.TheVariants.{TdEpoch}
use Rattle.td_words.specs.declared.names.Mode.TheVariants.{Shared, Exclusive}
use Rattle.td_words.specs.declared.machines.Machine.{Machine}
use Rattle.td_words.specs.declared.places.TheConstants.{TDCS_EPOCH}
use Rattle.td_words.specs.declared.refusals.Status.TheVariants.{OperandInvalid, CounterLimit, PreviousTlbEpochBusy}
use Rattle.td_words.specs.Place as place
use Rattle.flat_core.specs.Conditions.{augmented_ops}
use Rattle.flat_core.specs.MemRows.{advance_epoch}
use Rattle.word_rules.specs.Rules.{Whole}
use Rattle.leaf_engine.specs.declared.needs.Place.{Place}
use Rattle.leaf_engine.specs.Changes.{Change, Put}
use Rattle.leaf_engine.specs.Trees.{Tree, Load, needs, done}
use Rattle.leaf_engine.specs.Means.{Task, OfCall}
use Rattle.leaf_parts.specs.Heads.{td_head_tree}
use Rattle.mem_remove.specs.NamedTrees.{epoch_lock_tree}
use Rattle.mem_remove.specs.TrackedTrees.{previous_tree}

-- TD_EPOCH rises by one
abbrev pub track_changes : (tdcs epoch : ℕ) → List Change
track_changes tdcs epoch = Put (place.Word tdcs TDCS_EPOCH) (epoch + 1) ∷ []

-- it can, and nobody is in guest who entered at the epoch before
abbrev pub track_epoch : (tdcs epoch : ℕ) → Tree
track_epoch tdcs epoch =
    needs (nat_lt epoch (2 ^ 32 - 1)) (CounterLimit TdEpoch)
    (previous_tree tdcs epoch (λ count. needs (count == 0) (PreviousTlbEpochBusy count) (done [] (track_changes tdcs epoch))))

-- it is held alone
abbrev pub track_rest : (tdr tdcs : ℕ) → Tree
track_rest tdr tdcs = epoch_lock_tree tdr tdcs Exclusive (Load Whole (place.Word tdcs TDCS_EPOCH) (λ epoch. track_epoch tdcs epoch))

abbrev pub track_tree : Machine → ℕ → Tree
track_tree m tdr = needs (nat_lt tdr m.pages) (OperandInvalid 1) (td_head_tree m.pages tdr Shared augmented_ops (λ td. track_rest tdr td.tdcs))

abbrev pub track_task : Place → ℕ → Task
track_task p tdr = record { place = p; tree = track_tree p.machine tdr; meaning = OfCall (advance_epoch p.machine tdr) }
