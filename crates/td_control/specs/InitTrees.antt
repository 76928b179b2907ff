-- The beginning of a TD's measurement as a decision over the words that it is told.
use Rattle.std.specs.Prelude.{ℕ, nat_lt, if◌then◌else◌, Some, List, [], ◌∷◌}
use Rattle.td_words.specs.declared.names.Mode.TheVariants.{Exclusive}
use Rattle.td_words.specs.declared.names.OpState.TheVariants.{Uninitialized, Initialized}
use Rattle.td_words.specs.declared.machines.Machine.{Machine}
use Rattle.td_words.specs.declared.places.TheConstants.{TDR_HKID, TDCS_OP, TDCS_EPOCH}
use Rattle.td_words.specs.declared.refusals.Status.TheVariants.{OperandInvalid}
use Rattle.td_words.specs.declared.replies.Value.TheVariants as value
use Rattle.td_words.specs.declared.replies.Reply.TheVariants.{Done}
use Rattle.td_words.specs.NameNumber.{op_number}
use Rattle.td_words.specs.Place as place
use Rattle.flat_core.specs.TdRows.{initialize}
use Rattle.word_rules.specs.Rules.{Whole}
use Rattle.leaf_engine.specs.declared.needs.Place.{Place}
use Rattle.leaf_engine.specs.Changes.{Change, Put, Swap}
use Rattle.leaf_engine.specs.Trees.{Tree, Load, needs, acts}
use Rattle.leaf_engine.specs.Means.{Task, OfCall}
use Rattle.leaf_parts.specs.Words.{is_hkid}
use Rattle.leaf_parts.specs.Heads.{td_head_tree}

-- a hasher that has measured nothing is put into the HKID's slot, which is the act; then the operation state and TD_EPOCH
-- are stored
abbrev pub begin_changes : (tdcs hkid : ℕ) → List Change
begin_changes tdcs h =
    Swap h (λ hand. Some [])
    ∷ Put (place.Word tdcs TDCS_OP) (op_number Initialized)
    ∷ Put (place.Word tdcs TDCS_EPOCH) 1
    ∷ []

abbrev pub init_changes : Machine → (tdcs hkid : ℕ) → List Change
init_changes m tdcs h = if is_hkid m h then begin_changes tdcs h else []

abbrev pub begin_tree : Machine → (tdr tdcs : ℕ) → Tree
begin_tree m tdr tdcs = Load Whole (place.Word tdr TDR_HKID) (λ hkid. acts (Done value.Nothing) (init_changes m tdcs hkid))

abbrev pub init_tree : Machine → ℕ → Tree
init_tree m tdr = needs (nat_lt tdr m.pages) (OperandInvalid 1) (td_head_tree m.pages tdr Exclusive (Uninitialized ∷ []) (λ td. begin_tree m tdr td.tdcs))

abbrev pub init_task : Place → ℕ → Task
init_task p tdr = record { place = p; tree = init_tree p.machine tdr; meaning = OfCall (initialize p.machine tdr) }
