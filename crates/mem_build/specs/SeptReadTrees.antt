-- The reading of an entry of a TD's secure EPT as a decision over the words that it is told.
use Rattle.std.specs.Prelude.{ℕ, ◌%◌, ◌^◌, ◌==◌, Bool, nat_lt, nat_le, List, [], ◌∷◌}
use Rattle.td_words.specs.declared.names.Mode.TheVariants.{Shared, Exclusive}
use Rattle.td_words.specs.declared.machines.Machine.{Machine}
use Rattle.td_words.specs.declared.refusals.Status.{Status}
use Rattle.td_words.specs.declared.refusals.Status.TheVariants.{OperandInvalid}
use Rattle.td_words.specs.declared.replies.Reply.TheVariants.{Done}
use Rattle.flat_core.specs.Arguments.{level_size}
use Rattle.flat_core.specs.Conditions.{begun_ops}
use Rattle.flat_core.specs.MemRows.{read_sept, entry_value}
use Rattle.leaf_engine.specs.declared.needs.Place.{Place}
use Rattle.leaf_engine.specs.Trees.{Tree, answers}
use Rattle.leaf_engine.specs.Means.{Task, OfCall}
use Rattle.leaf_parts.specs.Arguments.{checked}
use Rattle.sept_parts.specs.SeptTrees.{td_find_tree}

abbrev pub sept_read_arguments : Machine → (tdr gpa level : ℕ) → List (Bool × Status)
sept_read_arguments m tdr gpa level = (nat_lt tdr m.pages, OperandInvalid 1) ∷ (nat_lt gpa (2 ^ 47), OperandInvalid 2) ∷ (nat_le level 3, OperandInvalid 3) ∷ (gpa % level_size level == 0, OperandInvalid 2) ∷ []

-- under T alone the entry's word stays until the act
abbrev pub sept_read_tree : Machine → (tdr gpa level : ℕ) → Tree
sept_read_tree m tdr gpa level =
    checked (sept_read_arguments m tdr gpa level) (td_find_tree m.pages tdr (record { op = Shared; tree = Exclusive }) begun_ops gpa level (λ found. answers (Done (entry_value found.entry))))

abbrev pub sept_read_task : Place → (tdr gpa level : ℕ) → Task
sept_read_task p tdr gpa level = record { place = p; tree = sept_read_tree p.machine tdr gpa level; meaning = OfCall (read_sept p.machine tdr gpa level) }
