-- The configuration of a TD's keys as a decision over the words that it is told.
use Rattle.std.specs.Prelude.{ℕ, List, nat_lt, [], ◌∷◌}
use Rattle.td_words.specs.declared.names.LifeState.TheVariants as life
use Rattle.td_words.specs.declared.machines.Machine.{Machine}
use Rattle.td_words.specs.declared.places.TheConstants.{TDR_LIFE}
use Rattle.td_words.specs.declared.refusals.Status.TheVariants.{OperandInvalid}
use Rattle.td_words.specs.declared.replies.Value.TheVariants as value
use Rattle.td_words.specs.declared.replies.Reply.TheVariants.{Done}
use Rattle.td_words.specs.NameNumber.{life_number}
use Rattle.td_words.specs.Place as place
use Rattle.flat_core.specs.TdRows.{configure_key}
use Rattle.leaf_engine.specs.declared.needs.Place.{Place}
use Rattle.leaf_engine.specs.Changes.{Change, Put}
use Rattle.leaf_engine.specs.Trees.{Tree, needs, acts}
use Rattle.leaf_engine.specs.Means.{Task, OfCall}
use Rattle.leaf_parts.specs.Heads.{tdr_head_tree}

-- the store of the life state is the act
abbrev pub configure_changes : ℕ → List Change
configure_changes tdr = Put (place.Word tdr TDR_LIFE) (life_number life.KeysConfigured) ∷ []

abbrev pub configure_tree : Machine → ℕ → Tree
configure_tree m tdr = needs (nat_lt tdr m.pages) (OperandInvalid 1) (tdr_head_tree tdr (life.HkidAssigned ∷ []) (acts (Done value.Nothing) (configure_changes tdr)))

abbrev pub configure_task : Place → ℕ → Task
configure_task p tdr = record { place = p; tree = configure_tree p.machine tdr; meaning = OfCall (configure_key p.machine tdr) }
