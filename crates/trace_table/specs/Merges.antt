-- Lists of what benches did on shared words and slots as one list, in which each answer is what the list has made.
use Rattle.std.specs.Prelude.{◌≡◌, ◌≢◌, ℕ, ◌<◌, ◌==◌, if◌then◌else◌, Option, None, List, [], ◌∷◌, length, slice_index, slice_index_or}
use Rattle.td_words.specs.declared.machines.Machine.{Machine}
use Rattle.mrtd_measure.specs.declared.measures.Measure.{Measure}
use Rattle.step_core.specs.Words.{word_count, answer_of, after_step}
use Rattle.step_core.specs.Items.{Table, with_slot}
use Rattle.step_core.specs.declared.items.Taken.{Taken}
use Rattle.step_core.specs.declared.items.Taken.TheVariants.{Stepped, Swapped, Missed}

-- an item, and the number of the list that it is of
pub record Made : Type 0 where
  pub list : ℕ
  pub taken : Taken

-- the items that are of list p, in order
abbrev pub part : ℕ → List Made → List Taken
part p [] = []
part p (m ∷ ms) = if m.list == p then m.taken ∷ part p ms else part p ms

-- one list in which each of these stands under its number, from 0, each item once, and nothing else
abbrev pub IsMergeOf : List (List Taken) → List Made → Type 0
IsMergeOf lists made = (p : ℕ) → part p made ≡ slice_index_or lists p []

-- the first of these items is a swap on that slot
pub record BeginsInSwap (k : ℕ) (xs : List Taken) : Type 0 where
  pub put : Option Measure
  pub taken : Option Measure
  pub further : List Taken
  pub is : xs ≡ Swapped k put taken ∷ further

-- Another list than p has a swap on that slot under way. As a swap is told where it gives its slot back, it is the next of
-- that list's items.
pub record IsUnderWay (behind : List Made) (p k : ℕ) : Type 0 where
  pub list : ℕ
  pub other : list ≢ p
  pub swaps : BeginsInSwap k (part list behind)

-- what was answered is what the merge has made, and a swap missed only where another list has one on its slot under way
abbrev pub TakenFits : List Made → Table → ℕ → Taken → Type 0
TakenFits behind t p (Stepped s answer) = answer ≡ answer_of t.words s
TakenFits behind t p (Swapped k put taken) = taken ≡ t.slots k
TakenFits behind t p (Missed k) = IsUnderWay behind p k

-- what an item makes of a table: a miss leaves it as it is
abbrev pub taken_after : Table → Taken → Table
taken_after t (Stepped s answer) = record t { words = after_step t.words s }
taken_after t (Swapped k put taken) = record t { slots = with_slot t.slots k put }
taken_after t (Missed k) = t

-- a merge leads from a table to another
abbrev pub MergePlays : Table → List Made → Table → Type 0
MergePlays t [] u = (u.words ≡ t.words) × (u.slots ≡ t.slots)
MergePlays t (m ∷ ms) u = TakenFits ms t m.list m.taken × MergePlays (taken_after t m.taken) ms u

-- a machine's words and slots at the start
abbrev pub no_table : Table
no_table = record { words = λ n. 0; slots = λ k. None }

-- a machine's words, by their addresses
pub record WordsSeen : Type 0 where
  pub words : List ℕ

-- these lists have a merge that plays, from words that are all 0 and slots without hashers, to these words of a machine
pub record MergesTo (m : Machine) (lists : List (List Taken)) (words : List ℕ) : Type 0 where
  pub made : List Made
  pub merge : IsMergeOf lists made
  pub table : Table
  pub plays : MergePlays no_table made table
  pub count : length words ≡ word_count m
  pub words_are : (n : ℕ) → n < word_count m → slice_index words n ≡ table.words n
