-- The export of a virtual processor's state as a decision over the words that it is told, and its changes.
use Rattle.std.specs.Prelude.{ℕ, ◌+◌, ◌%◌, ◌^◌, ◌==◌, not, List, [], ◌∷◌, Result}
use Rattle.td_words.specs.declared.names.PageKind.TheVariants as kind
use Rattle.td_words.specs.declared.names.Mode.TheVariants.{Exclusive}
use Rattle.td_words.specs.declared.machines.Machine.{Machine}
use Rattle.td_words.specs.declared.places.TheConstants.{TDCS_VPS_EXPORTED, VP_INDEX, VP_POSITION, VP_EXPORTED, STREAM_COUNTER}
use Rattle.td_words.specs.declared.refusals.Status.TheVariants.{PageMetadataIncorrect, AlreadyExported}
use Rattle.td_words.specs.Place as place
use Rattle.flat_core.specs.Processor.{OfPage}
use Rattle.flat_core.specs.BundleRows.{paused_ops, export_vp}
use Rattle.word_rules.specs.Rules.{Whole}
use Rattle.leaf_engine.specs.declared.needs.Place.{Place}
use Rattle.leaf_engine.specs.declared.plans.Stop.{Stop}
use Rattle.leaf_engine.specs.Changes.{Change, Put}
use Rattle.leaf_engine.specs.Trees.{Tree, Lock, Load, needs}
use Rattle.leaf_engine.specs.Means.{Task, OfCall}
use Rattle.leaf_parts.specs.Arguments.{checked, two_pages}
use Rattle.leaf_parts.specs.Heads.{td_head_tree}
use Rattle.stream_parts.specs.declared.rooms.Room.{Room}
use Rattle.stream_parts.specs.Rooms.{room_tree, session_tree, mig_epoch_tree}
use Rattle.access_core.specs.RtmrTrees.{register_at}
use Rattle.vcpu_control.specs.Words.{says_page_of}
use Rattle.export_states.specs.declared.states.Stated.{Stated}
use Rattle.export_states.specs.declared.states.Exported.{Exported}
use Rattle.export_states.specs.StateTrees.{payload_tree, state_end, ComesTo}

-- the session of its export is the act; then the exported states are counted, and the bundle is
abbrev pub vp_changes : (vp : ℕ) → Stated → List Change
vp_changes vp x =
    Put (place.Word vp VP_EXPORTED) x.session
    ∷ Put (place.Word x.tdcs TDCS_VPS_EXPORTED) ((x.count + 1) % 2 ^ 64)
    ∷ Put (place.Word x.room.page STREAM_COUNTER) (x.room.counter + 1)
    ∷ []

-- it is the TD's, is held, and wasn't exported in the session
abbrev pub vp_left_tree : (tdr tdcs vp : ℕ) → (ℕ → Tree) → Tree
vp_left_tree tdr tdcs vp further =
    Lock (OfPage vp) (place.Lock vp) Exclusive
    (Load Whole (place.Pamt vp) (λ pamt.
    needs (says_page_of tdr kind.Tdvpr pamt) (PageMetadataIncorrect vp)
    (Load Whole (place.Word vp VP_EXPORTED) (λ exported.
    session_tree tdcs (λ session.
    needs (not (exported == session)) AlreadyExported (further session))))))

-- what else its bundle says, and how many were exported before
abbrev pub vp_said_tree : (tdcs vp : ℕ) → Room → (session : ℕ) → (Stated → Tree) → Tree
vp_said_tree tdcs vp room session further =
    mig_epoch_tree tdcs (λ epoch.
    Load Whole (place.Word vp VP_INDEX) (λ index.
    Load Whole (place.Word vp VP_POSITION) (λ position.
    Load Whole (place.Word tdcs TDCS_VPS_EXPORTED) (λ count.
    further (record { tdcs = tdcs; count = count; room = room; session = session; epoch = epoch; index = index % 2 ^ 16; info = position % 2 ^ 32 })))))

-- behind the beginning of the row
abbrev pub vp_state_tree : (pages tdr tdcs vp : ℕ) → (Stated → Tree) → Tree
vp_state_tree pages tdr tdcs vp further = vp_left_tree tdr tdcs vp (λ session. room_tree pages tdcs 0 (λ room. vp_said_tree tdcs vp room session further))

-- all conditions, and then the registers
abbrev pub vp_asked : Machine → (tdr vp : ℕ) → (Stated → Tree) → Tree
vp_asked m tdr vp further = checked (two_pages m tdr vp) (td_head_tree m.pages tdr Exclusive paused_ops (λ td. vp_state_tree m.pages tdr td.tdcs vp further))

abbrev pub registers_tree : (vp slot : ℕ) → Stated → Tree
registers_tree vp slot x = payload_tree slot 2 (vp_changes vp) (λ y. register_at vp) 8 x

abbrev pub vp_state_task : Place → (tdr vp slot : ℕ) → Task
vp_state_task p tdr vp slot = record { place = p; tree = vp_asked p.machine tdr vp (registers_tree vp slot); meaning = OfCall (export_vp p.machine tdr vp slot) }

abbrev pub VpComes : Place → (tdr vp slot : ℕ) → (told : List ℕ) → Result Exported Stop → Type 0
VpComes p tdr vp slot told r = ComesTo p.machine.pages (vp_asked p.machine tdr vp (registers_tree vp slot)) (state_end slot 2 (vp_changes vp)) told r
