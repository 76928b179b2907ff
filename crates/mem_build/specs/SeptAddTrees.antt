-- The addition of a secure EPT page as a decision over the words that it is told.
use Rattle.std.specs.Prelude.{ℕ, ◌%◌, ◌^◌, ◌==◌, ◌&&◌, Bool, not, nat_lt, nat_le, List, [], ◌∷◌}
use Rattle.td_words.specs.declared.names.EntryState.TheVariants as entry
use Rattle.td_words.specs.declared.names.PageKind.TheVariants as kind
use Rattle.td_words.specs.declared.machines.Machine.{Machine}
use Rattle.td_words.specs.declared.refusals.Status.{Status}
use Rattle.td_words.specs.declared.refusals.Status.TheVariants.{OperandInvalid}
use Rattle.flat_core.specs.Arguments.{level_size}
use Rattle.flat_core.specs.Conditions.{growing_ops}
use Rattle.flat_core.specs.MemRows.{add_sept}
use Rattle.leaf_engine.specs.declared.needs.Place.{Place}
use Rattle.leaf_engine.specs.Changes.{Clear}
use Rattle.leaf_engine.specs.Trees.{Tree}
use Rattle.leaf_engine.specs.Means.{Task, OfCall}
use Rattle.leaf_parts.specs.Arguments.{checked}
use Rattle.sept_parts.specs.declared.mappings.Mapping.{Mapping}
use Rattle.sept_parts.specs.MapTrees.{td_map_tree}

abbrev pub sept_add_arguments : Machine → (tdr gpa level page : ℕ) → List (Bool × Status)
sept_add_arguments m tdr gpa level page =
    (nat_lt tdr m.pages, OperandInvalid 1)
    ∷ (nat_lt gpa (2 ^ 47), OperandInvalid 2)
    ∷ (nat_le 1 level && nat_le level 3, OperandInvalid 3)
    ∷ (nat_lt page m.pages, OperandInvalid 4)
    ∷ (not (page == tdr), OperandInvalid 4)
    ∷ (gpa % level_size level == 0, OperandInvalid 2)
    ∷ []

-- the entry may be walked through, to the page that holds those below it
abbrev pub sept_mapping : (tdr gpa level page : ℕ) → Mapping
sept_mapping tdr gpa level page = record { tdr = tdr; gpa = gpa; level = level; page = page; kind = kind.Ept; state = entry.NlMapped }

-- the page is cleared before the act
abbrev pub sept_add_tree : Machine → (tdr gpa level page : ℕ) → Tree
sept_add_tree m tdr gpa level page = checked (sept_add_arguments m tdr gpa level page) (td_map_tree m.pages growing_ops (Clear page ∷ []) (sept_mapping tdr gpa level page))

abbrev pub sept_add_task : Place → (tdr gpa level page : ℕ) → Task
sept_add_task p tdr gpa level page = record { place = p; tree = sept_add_tree p.machine tdr gpa level page; meaning = OfCall (add_sept p.machine tdr gpa level page) }
