-- The addition of a private page that a running guest is to accept, as a decision over the words that it is told.
use Rattle.std.specs.Prelude.{ℕ, ◌%◌, ◌^◌, ◌==◌, Bool, not, nat_lt, List, [], ◌∷◌}
use Rattle.td_words.specs.declared.names.EntryState.TheVariants as entry
use Rattle.td_words.specs.declared.names.PageKind.TheVariants as kind
use Rattle.td_words.specs.declared.machines.Machine.{Machine}
use Rattle.td_words.specs.declared.refusals.Status.{Status}
use Rattle.td_words.specs.declared.refusals.Status.TheVariants.{OperandInvalid}
use Rattle.flat_core.specs.Arguments.{level_size}
use Rattle.flat_core.specs.Conditions.{augmented_ops}
use Rattle.flat_core.specs.MemRows.{augment_page}
use Rattle.leaf_engine.specs.declared.needs.Place.{Place}
use Rattle.leaf_engine.specs.Trees.{Tree}
use Rattle.leaf_engine.specs.Means.{Task, OfCall}
use Rattle.leaf_parts.specs.Arguments.{checked}
use Rattle.sept_parts.specs.declared.mappings.Mapping.{Mapping}
use Rattle.sept_parts.specs.MapTrees.{td_map_tree}

abbrev pub page_aug_arguments : Machine → (tdr gpa page : ℕ) → List (Bool × Status)
page_aug_arguments m tdr gpa page =
    (nat_lt tdr m.pages, OperandInvalid 1)
    ∷ (nat_lt gpa (2 ^ 47), OperandInvalid 2)
    ∷ (nat_lt page m.pages, OperandInvalid 3)
    ∷ (not (page == tdr), OperandInvalid 3)
    ∷ (gpa % level_size 0 == 0, OperandInvalid 2)
    ∷ []

-- the entry waits for the guest
abbrev pub page_aug_mapping : (tdr gpa page : ℕ) → Mapping
page_aug_mapping tdr gpa page = record { tdr = tdr; gpa = gpa; level = 0; page = page; kind = kind.Reg; state = entry.Pending }

-- no word of the page is stored
abbrev pub page_aug_tree : Machine → (tdr gpa page : ℕ) → Tree
page_aug_tree m tdr gpa page = checked (page_aug_arguments m tdr gpa page) (td_map_tree m.pages augmented_ops [] (page_aug_mapping tdr gpa page))

abbrev pub page_aug_task : Place → (tdr gpa page : ℕ) → Task
page_aug_task p tdr gpa page = record { place = p; tree = page_aug_tree p.machine tdr gpa page; meaning = OfCall (augment_page p.machine tdr gpa page) }
