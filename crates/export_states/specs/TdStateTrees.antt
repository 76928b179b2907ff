-- The export of a TD's state as a decision over the words that it is told, and its changes.
use Rattle.std.specs.Prelude.{ℕ, ◌+◌, ◌==◌, nat_lt, List, [], ◌∷◌, Result}
use Rattle.td_words.specs.declared.names.Mode.TheVariants.{Exclusive}
use Rattle.td_words.specs.declared.machines.Machine.{Machine}
use Rattle.td_words.specs.declared.places.TheConstants.{TDCS_TD_EXPORTED, TDCS_RTMRS, STREAM_COUNTER}
use Rattle.td_words.specs.declared.refusals.Status.TheVariants.{OperandInvalid, AlreadyExported}
use Rattle.td_words.specs.Place.{WordPlace}
use Rattle.td_words.specs.Place as place
use Rattle.flat_core.specs.BundleRows.{paused_ops, export_td}
use Rattle.word_rules.specs.Rules.{Whole}
use Rattle.leaf_engine.specs.declared.needs.Place.{Place}
use Rattle.leaf_engine.specs.declared.plans.Stop.{Stop}
use Rattle.leaf_engine.specs.Changes.{Change, Put}
use Rattle.leaf_engine.specs.Trees.{Tree, Load, needs}
use Rattle.leaf_engine.specs.Means.{Task, OfCall}
use Rattle.leaf_parts.specs.Heads.{td_head_tree}
use Rattle.stream_parts.specs.Rooms.{room_tree, session_tree, mig_epoch_tree}
use Rattle.export_states.specs.declared.states.Stated.{Stated}
use Rattle.export_states.specs.declared.states.Exported.{Exported}
use Rattle.export_states.specs.StateTrees.{payload_tree, state_end, ComesTo}

-- that its state was exported is the act; then the bundle is counted
abbrev pub td_changes : Stated → List Change
td_changes x =
    Put (place.Word x.tdcs TDCS_TD_EXPORTED) 1
    ∷ Put (place.Word x.room.page STREAM_COUNTER) (x.room.counter + 1)
    ∷ []

-- it wasn't exported in the session; and what else its bundle says
abbrev pub td_state_tree : (pages tdcs : ℕ) → (Stated → Tree) → Tree
td_state_tree pages tdcs further =
    Load Whole (place.Word tdcs TDCS_TD_EXPORTED) (λ exported.
    needs (exported == 0) AlreadyExported
    (room_tree pages tdcs 0 (λ room.
    session_tree tdcs (λ session.
    mig_epoch_tree tdcs (λ epoch.
    further (record { tdcs = tdcs; count = 0; room = room; session = session; epoch = epoch; index = 0; info = 0 }))))))

-- all conditions, and then the RTMRs
abbrev pub td_asked : Machine → (tdr : ℕ) → (Stated → Tree) → Tree
td_asked m tdr further = needs (nat_lt tdr m.pages) (OperandInvalid 1) (td_head_tree m.pages tdr Exclusive paused_ops (λ td. td_state_tree m.pages td.tdcs further))

abbrev pub rtmr_at : Stated → ℕ → WordPlace
rtmr_at x n = place.Word x.tdcs (TDCS_RTMRS + n)

abbrev pub rtmrs_tree : (slot : ℕ) → Stated → Tree
rtmrs_tree slot x = payload_tree slot 1 td_changes rtmr_at 24 x

abbrev pub td_tree : Machine → (tdr slot : ℕ) → Tree
td_tree m tdr slot = td_asked m tdr (rtmrs_tree slot)

abbrev pub td_state_task : Place → (tdr slot : ℕ) → Task
td_state_task p tdr slot = record { place = p; tree = td_tree p.machine tdr slot; meaning = OfCall (export_td p.machine tdr slot) }

abbrev pub TdComes : Place → (tdr slot : ℕ) → (told : List ℕ) → Result Exported Stop → Type 0
TdComes p tdr slot told r = ComesTo p.machine.pages (td_tree p.machine tdr slot) (state_end slot 1 td_changes) told r
