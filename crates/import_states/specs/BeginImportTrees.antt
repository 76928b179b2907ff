-- The import of what doesn't change of a TD, with which a session begins, as a decision over the words that it is told, and its
-- changes.
use Rattle.std.specs.Prelude.{ℕ, ◌==◌, nat_lt, Option, List, [], ◌∷◌}
use Rattle.td_words.specs.declared.names.OpState.TheVariants as op
use Rattle.td_words.specs.declared.names.HeaderField.TheVariants as field
use Rattle.td_words.specs.declared.names.Mode.TheVariants.{Exclusive}
use Rattle.td_words.specs.declared.machines.Machine.{Machine}
use Rattle.td_words.specs.declared.places.TheConstants.{TDCS_OP, TDCS_EPOCH, TDCS_MIG_EPOCH, TDCS_SESSION, TDCS_VPS_EXPECTED, TDCS_STREAM_COUNT, TDCS_MRTD, STREAM_COUNTER, KEY_LOCK, KEY_LAST_IMPORTED}
use Rattle.td_words.specs.declared.refusals.Status.TheVariants.{OperandInvalid, NoStream, BundleHeader}
use Rattle.td_words.specs.NameNumber.{op_number}
use Rattle.td_words.specs.Place as place
use Rattle.flat_core.specs.World.{ClearHeader}
use Rattle.flat_core.specs.Processor.{OfKeys}
use Rattle.flat_core.specs.Opening.{Incoming}
use Rattle.flat_core.specs.Inputs.{Input, input_in}
use Rattle.flat_core.specs.ImportRows.{first_ops, import_immutable}
use Rattle.word_rules.specs.Rules.{Whole}
use Rattle.leaf_engine.specs.declared.needs.Place.{Place}
use Rattle.leaf_engine.specs.Changes.{Change, Put}
use Rattle.leaf_engine.specs.Trees.{Tree, Lock, Load, needs, done}
use Rattle.leaf_engine.specs.Means.{Task, OfCall}
use Rattle.leaf_parts.specs.Heads.{td_head_tree}
use Rattle.stream_parts.specs.Streams.{page_tree}
use Rattle.import_parts.specs.InputTrees.{input_tree, tag_tree, due_tree}
use Rattle.import_parts.specs.WordPuts.{put_words}
use Rattle.import_states.specs.declared.sessions.Begun.{Begun}

-- the operation state is the act; then come TD_EPOCH, the migration epoch, the session, how many virtual processors there will be,
-- the last imported session in the key table, the first stream, which has counted this bundle, and MRTD
abbrev pub begin_import_changes : Input → Begun → List Change
begin_import_changes x g =
    Put (place.Word g.tdcs TDCS_OP) (op_number op.MemoryImport)
    ∷ Put (place.Word g.tdcs TDCS_EPOCH) 1
    ∷ Put (place.Word g.tdcs TDCS_MIG_EPOCH) 1
    ∷ Put (place.Word g.tdcs TDCS_SESSION) x.header.session
    ∷ Put (place.Word g.tdcs TDCS_VPS_EXPECTED) x.header.info
    ∷ Put (place.Key KEY_LAST_IMPORTED) x.header.session
    ∷ Put (place.Word g.page STREAM_COUNTER) 1
    ∷ put_words g.tdcs TDCS_MRTD x.words 0 6

-- the key table is held alone
abbrev pub keys_held_tree : Tree → Tree
keys_held_tree further = Lock OfKeys (place.Key KEY_LOCK) Exclusive further

-- the TD has a stream
abbrev pub stream_there_tree : (tdcs : ℕ) → Tree → Tree
stream_there_tree tdcs further = Load Whole (place.Word tdcs TDCS_STREAM_COUNT) (λ count. needs (nat_lt 0 count) (NoStream 0) further)

-- the bundle's session is later than the last imported one, and it is the first bundle of it
abbrev pub session_first_tree : ClearHeader → Tree → Tree
session_first_tree h further =
    Load Whole (place.Key KEY_LAST_IMPORTED) (λ last.
    needs (nat_lt last h.session) (BundleHeader field.Session)
    (needs (h.epoch == 1) (BundleHeader field.Epoch) (due_tree h 0 further)))

-- behind the beginning of the row
abbrev pub begin_import_tree : (pages tdcs : ℕ) → ClearHeader → Input → (ℕ → Tree) → Tree
begin_import_tree pages tdcs h x further = keys_held_tree (stream_there_tree tdcs (session_first_tree h (page_tree pages tdcs 0 (λ page. tag_tree x (further page)))))

abbrev pub begin_import_asked : Machine → Input → (tdr slot : ℕ) → (Begun → Tree) → Tree
begin_import_asked m x tdr slot further =
    needs (nat_lt tdr m.pages) (OperandInvalid 1)
    (input_tree x slot (0 ∷ [])
    (td_head_tree m.pages tdr Exclusive first_ops (λ td. begin_import_tree m.pages td.tdcs x.header x (λ page. further (record { tdcs = td.tdcs; page = page })))))

abbrev pub begin_import_end : Input → Begun → Tree
begin_import_end x g = done [] (begin_import_changes x g)

abbrev pub import_immutable_task : Place → Option Incoming → (tdr slot : ℕ) → Task
import_immutable_task p b tdr slot = record { place = p; tree = begin_import_asked p.machine (input_in b) tdr slot (begin_import_end (input_in b)); meaning = OfCall (import_immutable p.machine b tdr slot) }
