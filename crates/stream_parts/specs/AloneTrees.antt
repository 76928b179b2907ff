-- The beginning of the rows that hold a TD's map alone, and the call behind it that gives the TD another operation state, as
-- decisions over the words that they are told.
use Rattle.std.specs.Prelude.{ℕ, nat_lt, List, [], ◌∷◌}
use Rattle.td_words.specs.declared.names.OpState.{OpState}
use Rattle.td_words.specs.declared.names.Mode.TheVariants.{Exclusive}
use Rattle.td_words.specs.declared.machines.Machine.{Machine}
use Rattle.td_words.specs.declared.places.TheConstants.{TDCS_OP}
use Rattle.td_words.specs.declared.refusals.Status.TheVariants.{OperandInvalid}
use Rattle.td_words.specs.NameNumber.{op_number}
use Rattle.td_words.specs.Place as place
use Rattle.flat_core.specs.Row.{Row}
use Rattle.leaf_engine.specs.declared.needs.Place.{Place}
use Rattle.leaf_engine.specs.Changes.{Change, Put}
use Rattle.leaf_engine.specs.Trees.{Tree, needs, done}
use Rattle.leaf_engine.specs.Means.{Task, OfCall}
use Rattle.leaf_parts.specs.Heads.{td_head_tree}
use Rattle.sept_parts.specs.SeptTrees.{tree_lock_tree}

abbrev pub td_alone_tree : (pages tdr : ℕ) → List OpState → (ℕ → Tree) → Tree
td_alone_tree pages tdr allowed further = td_head_tree pages tdr Exclusive allowed (λ td. tree_lock_tree tdr td.tdcs Exclusive (further td.tdcs))

-- the store of the operation state is the act
abbrev pub op_changes : OpState → (tdcs : ℕ) → List Change
op_changes next tdcs = Put (place.Word tdcs TDCS_OP) (op_number next) ∷ []

abbrev pub op_tree : Machine → List OpState → OpState → (tdr : ℕ) → Tree
op_tree m allowed next tdr = needs (nat_lt tdr m.pages) (OperandInvalid 1) (td_alone_tree m.pages tdr allowed (λ tdcs. done [] (op_changes next tdcs)))

abbrev pub op_task : Place → List OpState → OpState → (tdr : ℕ) → Row → Task
op_task p allowed next tdr row = record { place = p; tree = op_tree p.machine allowed next tdr; meaning = OfCall row }
