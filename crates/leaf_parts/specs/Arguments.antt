-- The arguments of a call: conditions that are judged without a word of memory, in the order of its row.
use Rattle.std.specs.Prelude.{◌≡◌, ℕ, ◌==◌, Bool, true, not, nat_lt, List, [], ◌∷◌}
use Rattle.td_words.specs.declared.machines.Machine.{Machine}
use Rattle.td_words.specs.declared.refusals.Status.{Status}
use Rattle.td_words.specs.declared.refusals.Status.TheVariants.{OperandInvalid}
use Rattle.leaf_engine.specs.Trees.{Tree, needs}

-- each is tested, with the status where it fails
abbrev pub checked : List (Bool × Status) → Tree → Tree
checked [] further = further
checked (c ∷ cs) further = needs c.0 c.1 (checked cs further)

abbrev pub AllHold : List (Bool × Status) → Type 0
AllHold [] = Unit {0}
AllHold (c ∷ cs) = (c.0 ≡ true) × AllHold cs

-- a TDR page, and another page
abbrev pub two_pages : Machine → (tdr page : ℕ) → List (Bool × Status)
two_pages m tdr page = (nat_lt tdr m.pages, OperandInvalid 1) ∷ (nat_lt page m.pages, OperandInvalid 2) ∷ (not (page == tdr), OperandInvalid 2) ∷ []
