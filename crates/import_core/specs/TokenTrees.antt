-- A token of an import as a decision over the words that it is told, and its changes.
use Rattle.std.specs.Prelude.{ℕ, ◌+◌, ◌==◌, Bool, true, false, Option, List, [], ◌∷◌}
use Rattle.td_words.specs.declared.names.OpState.TheVariants as op
use Rattle.td_words.specs.declared.names.HeaderField.TheVariants as field
use Rattle.td_words.specs.declared.machines.Machine.{Machine}
use Rattle.td_words.specs.declared.places.TheConstants.{TDCS_OP, TDCS_MIG_EPOCH, STREAM_COUNTER}
use Rattle.td_words.specs.declared.refusals.Status.TheVariants.{BundleHeader, TokenTotal}
use Rattle.td_words.specs.NameNumber.{op_number}
use Rattle.td_words.specs.Place as place
use Rattle.flat_core.specs.World.{ClearHeader}
use Rattle.flat_core.specs.Opening.{Incoming}
use Rattle.flat_core.specs.Inputs.{Input, input_in}
use Rattle.flat_core.specs.ImportRows.{is_start, import_token_ops, epoch_due, import_token}
use Rattle.leaf_engine.specs.declared.needs.Place.{Place}
use Rattle.leaf_engine.specs.Changes.{Change, Put}
use Rattle.leaf_engine.specs.Trees.{Tree, needs, done}
use Rattle.leaf_engine.specs.Means.{Task, OfCall}
use Rattle.stream_parts.specs.declared.rooms.Room.{Room}
use Rattle.stream_parts.specs.Streams.{pages_tree, sum_tree}
use Rattle.stream_parts.specs.Rooms.{mig_epoch_tree}
use Rattle.import_parts.specs.InputTrees.{input_alone_tree, session_same_tree, counter_due_tree, tag_tree}

-- the migration epoch is the one that the token begins
abbrev pub token_epoch_tree : (tdcs : ℕ) → ClearHeader → Tree → Tree
token_epoch_tree tdcs h further = mig_epoch_tree tdcs (λ epoch. needs (h.epoch == epoch_due (is_start h) epoch) (BundleHeader field.Epoch) further)

-- so many bundles of the session came in before it
abbrev pub total_same_tree : (pages tdcs : ℕ) → ClearHeader → Tree → Tree
total_same_tree pages tdcs h further =
    pages_tree pages tdcs (λ streams. sum_tree STREAM_COUNTER streams.items (λ total. needs (total == h.total) (TokenTotal total h.total) further))

-- its fields are those that are due, and its tag is right
abbrev pub token_due_tree : (pages tdcs : ℕ) → ClearHeader → Input → (Room → Tree) → Tree
token_due_tree pages tdcs h x further =
    session_same_tree tdcs h
    (token_epoch_tree tdcs h
    (counter_due_tree pages tdcs 0 h (λ room. tag_tree x (total_same_tree pages tdcs h (further room)))))

-- the store of the migration epoch is the act; then the start token ends the import of memory and states, and stream 0 counts
-- the bundle
abbrev pub import_token_changes : (start : Bool) → (tdcs page epoch counter : ℕ) → List Change
import_token_changes false tdcs page epoch counter = Put (place.Word tdcs TDCS_MIG_EPOCH) epoch ∷ Put (place.Word page STREAM_COUNTER) (counter + 1) ∷ []
import_token_changes true tdcs page epoch counter =
    Put (place.Word tdcs TDCS_MIG_EPOCH) epoch ∷ Put (place.Word tdcs TDCS_OP) (op_number op.PostImport) ∷ Put (place.Word page STREAM_COUNTER) (counter + 1) ∷ []

abbrev pub import_token_end : ClearHeader → (tdcs : ℕ) → Room → Tree
import_token_end h tdcs room = done [] (import_token_changes (is_start h) tdcs room.page h.epoch room.counter)

abbrev pub import_token_tree : Machine → Option Incoming → (tdr slot : ℕ) → Tree
import_token_tree m b tdr slot =
    let x = input_in b in
    input_alone_tree m.pages x tdr slot (4 ∷ 5 ∷ []) (import_token_ops (is_start x.header)) (λ d. token_due_tree m.pages d x.header x (import_token_end x.header d))

abbrev pub import_token_task : Place → Option Incoming → (tdr slot : ℕ) → Task
import_token_task p b tdr slot = record { place = p; tree = import_token_tree p.machine b tdr slot; meaning = OfCall (import_token p.machine b tdr slot) }
