-- The import of a TD's state as a decision over the words that it is told, and its changes.
use Rattle.std.specs.Prelude.{ℕ, ◌+◌, nat_lt, Option, List, [], ◌∷◌, Result, Ok, Err}
use Rattle.td_words.specs.declared.names.OpState.TheVariants as op
use Rattle.td_words.specs.declared.names.Mode.TheVariants.{Exclusive}
use Rattle.td_words.specs.declared.machines.Machine.{Machine}
use Rattle.td_words.specs.declared.places.TheConstants.{TDCS_OP, TDCS_RTMRS, STREAM_COUNTER}
use Rattle.td_words.specs.declared.refusals.Status.TheVariants.{OperandInvalid}
use Rattle.td_words.specs.NameNumber.{op_number}
use Rattle.td_words.specs.declared.replies.Value.TheVariants as value
use Rattle.td_words.specs.declared.replies.Reply.TheVariants.{Done}
use Rattle.td_words.specs.Place as place
use Rattle.flat_core.specs.World.{ClearHeader}
use Rattle.flat_core.specs.Opening.{Incoming}
use Rattle.flat_core.specs.Inputs.{Input, input_in}
use Rattle.flat_core.specs.ImportRows.{td_state_ops, import_td}
use Rattle.leaf_engine.specs.declared.needs.Place.{Place}
use Rattle.leaf_engine.specs.declared.plans.Stop.{Stop}
use Rattle.leaf_engine.specs.Changes.{Change, Put}
use Rattle.leaf_engine.specs.Decides.{Decides}
use Rattle.leaf_engine.specs.Trees.{Tree, needs, done}
use Rattle.leaf_engine.specs.Means.{Task, OfCall}
use Rattle.leaf_parts.specs.Heads.{td_head_tree}
use Rattle.stream_parts.specs.declared.rooms.Room.{Room}
use Rattle.import_parts.specs.InputTrees.{input_tree, tag_tree, session_same_tree, epoch_same_tree, counter_due_tree}
use Rattle.import_parts.specs.WordPuts.{put_words}
use Rattle.import_states.specs.declared.sessions.Begun.{Begun}

-- the first word of the RTMRs is the act; then come the operation state, the counter of the stream that brought the bundle, and
-- the other words of the RTMRs
abbrev pub td_import_changes : Input → Begun → List Change
td_import_changes x g =
    Put (place.Word g.tdcs TDCS_RTMRS) (x.words 0)
    ∷ Put (place.Word g.tdcs TDCS_OP) (op_number op.StateImport)
    ∷ Put (place.Word g.page STREAM_COUNTER) (x.header.counter + 1)
    ∷ put_words g.tdcs TDCS_RTMRS x.words 1 23

-- the bundle is due
abbrev pub td_due_tree : (pages tdcs : ℕ) → ClearHeader → Input → (Room → Tree) → Tree
td_due_tree pages tdcs h x further = session_same_tree tdcs h (epoch_same_tree tdcs h (counter_due_tree pages tdcs 0 h (λ room. tag_tree x (further room))))

abbrev pub td_import_asked : Machine → Input → (tdr slot : ℕ) → (Begun → Tree) → Tree
td_import_asked m x tdr slot further =
    needs (nat_lt tdr m.pages) (OperandInvalid 1)
    (input_tree x slot (1 ∷ [])
    (td_head_tree m.pages tdr Exclusive td_state_ops (λ td. td_due_tree m.pages td.tdcs x.header x (λ room. further (record { tdcs = td.tdcs; page = room.page })))))

abbrev pub td_import_end : Input → Begun → Tree
td_import_end x g = done [] (td_import_changes x g)

abbrev pub td_import_tree : Machine → Input → (tdr slot : ℕ) → Tree
td_import_tree m x tdr slot = td_import_asked m x tdr slot (td_import_end x)

abbrev pub import_td_task : Place → Option Incoming → (tdr slot : ℕ) → Task
import_td_task p b tdr slot = record { place = p; tree = td_import_tree p.machine (input_in b) tdr slot; meaning = OfCall (import_td p.machine b tdr slot) }

-- all is told, or what comes next
abbrev pub DecidesOn : Machine → Input → (tdr slot : ℕ) → (told : List ℕ) → Result Begun Stop → Type 0
DecidesOn m x tdr slot told (Ok g) = Decides m.pages (td_import_tree m x tdr slot) told (Ok (record { reply = Done value.Nothing; changes = td_import_changes x g }))
DecidesOn m x tdr slot told (Err e) = Decides m.pages (td_import_tree m x tdr slot) told (Err e)
