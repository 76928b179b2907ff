-- The import of a virtual processor's state as a decision over the words that it is told, and its changes.
use Rattle.std.specs.Prelude.{ℕ, ◌+◌, ◌==◌, Option, List, [], ◌∷◌}
use Rattle.td_words.specs.declared.names.PageKind.TheVariants as kind
use Rattle.td_words.specs.declared.names.VcpuState.TheVariants as vcpu
use Rattle.td_words.specs.declared.names.HeaderField.TheVariants as field
use Rattle.td_words.specs.declared.names.Mode.TheVariants.{Exclusive}
use Rattle.td_words.specs.declared.machines.Machine.{Machine}
use Rattle.td_words.specs.declared.places.TheConstants.{VP_INDEX, VP_STATE, VP_POSITION, VP_REGISTERS, STREAM_COUNTER}
use Rattle.td_words.specs.declared.refusals.Status.TheVariants.{PageMetadataIncorrect, VcpuStateIncorrect, BundleHeader}
use Rattle.td_words.specs.NameNumber.{vcpu_number}
use Rattle.td_words.specs.Place as place
use Rattle.flat_core.specs.World.{ClearHeader}
use Rattle.flat_core.specs.Processor.{OfPage}
use Rattle.flat_core.specs.Opening.{Incoming}
use Rattle.flat_core.specs.Conditions.{same_vp_state}
use Rattle.flat_core.specs.Inputs.{Input, input_in}
use Rattle.flat_core.specs.ImportRows.{vp_state_ops, import_vp}
use Rattle.word_rules.specs.Rules.{Whole}
use Rattle.leaf_engine.specs.declared.needs.Place.{Place}
use Rattle.leaf_engine.specs.Changes.{Change, Put}
use Rattle.leaf_engine.specs.Trees.{Tree, Lock, Load, needs, done}
use Rattle.leaf_engine.specs.Means.{Task, OfCall}
use Rattle.leaf_parts.specs.Arguments.{checked, two_pages}
use Rattle.leaf_parts.specs.Heads.{td_head_tree}
use Rattle.stream_parts.specs.declared.rooms.Room.{Room}
use Rattle.vcpu_control.specs.Words.{says_page_of, vcpu_told}
use Rattle.import_parts.specs.InputTrees.{input_tree, tag_tree, session_same_tree, epoch_same_tree, counter_due_tree}
use Rattle.import_parts.specs.WordPuts.{put_words}

-- the state's word is the act; then come the position and the counter of the stream that brought the bundle, and the registers
abbrev pub vp_import_changes : (vp : ℕ) → Input → (page : ℕ) → List Change
vp_import_changes vp x page =
    Put (place.Word vp VP_STATE) (vcpu_number vcpu.Ready)
    ∷ Put (place.Word vp VP_POSITION) x.header.info
    ∷ Put (place.Word page STREAM_COUNTER) (x.header.counter + 1)
    ∷ put_words vp VP_REGISTERS x.words 0 8

-- it is the TD's, is held alone, and is CREATED
abbrev pub vp_there_tree : (tdr vp : ℕ) → Tree → Tree
vp_there_tree tdr vp further =
    Lock (OfPage vp) (place.Lock vp) Exclusive
    (Load Whole (place.Pamt vp) (λ pamt.
    needs (says_page_of tdr kind.Tdvpr pamt) (PageMetadataIncorrect vp)
    (Load Whole (place.Word vp VP_STATE) (λ state.
    needs (same_vp_state (vcpu_told state) vcpu.Created) (VcpuStateIncorrect (vcpu_told state)) further))))

-- the bundle is that of its index
abbrev pub index_same_tree : (vp : ℕ) → ClearHeader → Tree → Tree
index_same_tree vp h further = Load Whole (place.Word vp VP_INDEX) (λ index. needs (h.index == index) (BundleHeader field.Index) further)

-- and is due
abbrev pub vp_due_tree : (pages tdcs vp : ℕ) → ClearHeader → Input → (Room → Tree) → Tree
vp_due_tree pages tdcs vp h x further =
    session_same_tree tdcs h (epoch_same_tree tdcs h (index_same_tree vp h (counter_due_tree pages tdcs 0 h (λ room. tag_tree x (further room)))))

-- behind the beginning of the row
abbrev pub vp_import_tree : (pages tdr tdcs vp : ℕ) → Input → (Room → Tree) → Tree
vp_import_tree pages tdr tdcs vp x further = vp_there_tree tdr vp (vp_due_tree pages tdcs vp x.header x further)

-- the arguments, and the bundle
abbrev pub vp_given_tree : Machine → Input → (tdr vp slot : ℕ) → Tree → Tree
vp_given_tree m x tdr vp slot further = checked (two_pages m tdr vp) (input_tree x slot (2 ∷ []) further)

abbrev pub vp_import_asked : Machine → Input → (tdr vp slot : ℕ) → (Room → Tree) → Tree
vp_import_asked m x tdr vp slot further = vp_given_tree m x tdr vp slot (td_head_tree m.pages tdr Exclusive vp_state_ops (λ td. vp_import_tree m.pages tdr td.tdcs vp x further))

abbrev pub vp_import_end : (vp : ℕ) → Input → Room → Tree
vp_import_end vp x room = done [] (vp_import_changes vp x room.page)

abbrev pub import_vp_task : Place → Option Incoming → (tdr vp slot : ℕ) → Task
import_vp_task p b tdr vp slot = record {
  place = p;
  tree = vp_import_asked p.machine (input_in b) tdr vp slot (vp_import_end vp (input_in b));
  meaning = OfCall (import_vp p.machine b tdr vp slot);
}
