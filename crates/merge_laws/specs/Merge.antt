-- Merges of the own lists of a script's processors, over words and slots that they share.
use Rattle.std.specs.Prelude.{◌≡◌, ◌≢◌, ◌⊎◌, ℕ, ◌<◌, Option, List, [], ◌∷◌, length}
use Rattle.mrtd_measure.specs.declared.measures.Measure.{Measure}
use Rattle.flat_core.specs.Opening.{Opening}
use Rattle.flat_core.specs.Event.{calls_of}
use Rattle.step_core.specs.Words.{answer_of, after_step}
use Rattle.step_core.specs.Items.{Table, with_slot}
use Rattle.step_core.specs.declared.items.Taken.{Taken}
use Rattle.step_core.specs.declared.items.Taken.TheVariants.{Stepped, Swapped, Missed}
use Rattle.leaf_engine.specs.OwnLists.{Piece, Unmarked, Marked, Wordless, joined, LeafTable, WordLp, first_lp, OwnTurns}
use Rattle.leaf_engine.specs.Merges.{Item, part, IsMerge, no_table}

-- the first of these pieces is a swap on that slot
pub record BeginsInSwap (k : ℕ) (ps : List Piece) : Type 0 where
  pub put : Option Measure
  pub taken : Option Measure
  pub further : List Piece
  pub is : (ps ≡ Unmarked (Swapped k put taken) ∷ further) ⊎ (ps ≡ Marked (Swapped k put taken) ∷ further)

-- Another processor than p has a swap on that slot under way. As a swap is told where it gives its slot back, it is the
-- next of that processor's pieces.
pub record IsUnderWay (behind : List Item) (p k : ℕ) : Type 0 where
  pub lp : ℕ
  pub other : lp ≢ p
  pub swaps : BeginsInSwap k (part lp behind)

-- what processor p was answered is what the merge has made, and it missed a slot only where another has it
abbrev pub TakenFits : List Item → Table → ℕ → Taken → Type 0
TakenFits behind t p (Stepped s answer) = answer ≡ answer_of t.words s
TakenFits behind t p (Swapped k put taken) = taken ≡ t.slots k
TakenFits behind t p (Missed k) = IsUnderWay behind p k

abbrev pub PieceFits : List Item → Table → ℕ → Piece → Type 0
PieceFits behind t p (Unmarked x) = TakenFits behind t p x
PieceFits behind t p (Marked x) = TakenFits behind t p x
PieceFits behind t p Wordless = Unit {0}

-- what an item makes of a table: a miss leaves it as it is
abbrev pub taken_after : Table → Taken → Table
taken_after t (Stepped s answer) = record t { words = after_step t.words s }
taken_after t (Swapped k put taken) = record t { slots = with_slot t.slots k put }
taken_after t (Missed k) = t

abbrev pub table_after : Table → Piece → Table
table_after t (Unmarked x) = taken_after t x
table_after t (Marked x) = taken_after t x
table_after t Wordless = t

-- a merge leads from a table to another
abbrev pub MergePlays : Table → List Item → Table → Type 0
MergePlays t [] u = (u.words ≡ t.words) × (u.slots ≡ t.slots)
MergePlays t (i ∷ is) u = PieceFits is t i.lp i.piece × MergePlays (table_after t i.piece) is u

-- A merge of own lists, one for each processor of a script, from the processor's first line on to where it then is, in
-- which each load reads what the merge has stored, each swap takes what the merge has put, and a swap misses only where
-- another processor has one on its slot under way.
pub record Merge (o : Opening) (leaf : ℕ → LeafTable) (is : List Item) (now : ℕ → WordLp) (u : Table) : Type 0 where
  pub own : ℕ → List (List Piece)
  pub turns : (p : ℕ) → p < length o.calls → OwnTurns (leaf p) o.machine (first_lp (calls_of o.calls p)) (own p) (now p)
  pub merge : IsMerge (length o.calls) (λ p. joined (own p)) is
  pub plays : MergePlays no_table is u
