-- The rule of the table: what the seats' lists tell has a merge that plays from all 0 to the machine's words, and that
-- leaves the same slots at home, with the same hashers.
use Rattle.std.specs.Prelude.{◌≡◌, ◌≢◌, ◌⊎◌, ℕ, zero, suc, ◌+◌, ◌<◌, ◌≤◌, true, false, Option, Some, None, List, [], ◌∷◌, length, slice_index}
use mathlib.Core.Option.{some}
use lib.ListN.{get_elem?}
use Rattle.atomic_table.specs.Table.{State}
use Rattle.td_words.specs.declared.machines.Machine.{Machine}
use Rattle.mrtd_measure.specs.declared.measures.Measure.{Measure}
use Rattle.step_core.specs.Words.{word_count, answer_of}
use Rattle.step_core.specs.Items.{Table}
use Rattle.step_core.specs.declared.items.Taken.{Taken}
use Rattle.step_core.specs.declared.items.Taken.TheVariants.{Stepped, Swapped, Missed}
use Rattle.trace_table.specs.declared.told.Swap.{Swap}
use Rattle.trace_table.specs.declared.told.Told.{Told}
use Rattle.trace_table.specs.Merges.{Made, part, BeginsInSwap, taken_after, no_table}
use Rattle.trace_table.specs.Views.{guards}

abbrev pub TableState : Type 0
TableState = State (Option Measure) Told

-- Another list than p has a swap on that slot under way: it is the next of its items, or it is yet to be told, where `due`
-- says which list has which slot out.
pub record IsDue (due : ℕ → Option ℕ) (behind : List Made) (p k : ℕ) : Type 0 where
  pub list : ℕ
  pub other : list ≢ p
  pub swaps : BeginsInSwap k (part list behind) ⊎ ((part list behind ≡ []) × (due list ≡ Some k))

-- a merge as far as it is told
abbrev pub Fits : (ℕ → Option ℕ) → List Made → Table → ℕ → Taken → Type 0
Fits due behind t p (Stepped s answer) = answer ≡ answer_of t.words s
Fits due behind t p (Swapped k put taken) = taken ≡ t.slots k
Fits due behind t p (Missed k) = IsDue due behind p k

abbrev pub Plays : (ℕ → Option ℕ) → Table → List Made → Table → Type 0
Plays due t [] u = u ≡ t
Plays due t (m ∷ ms) u = Fits due ms t m.list m.taken × Plays due (taken_after t m.taken) ms u

-- which number a seat's first list has in the merge; whose each list is; which seat has a slot out; which slot a list's
-- seat has out; how many lists the first seat keeps, and how many there are
pub record Holders : Type 0 where
  pub base : ℕ → ℕ
  pub owner : ℕ → ℕ
  pub taker : ℕ → ℕ
  pub due : ℕ → Option ℕ
  pub kept : ℕ
  pub total : ℕ

abbrev pub slot_of : Option Swap → Option ℕ
slot_of None = None
slot_of (Some x) = Some x.slot

-- what a seat has out is its own list's
abbrev pub due_at : Option Swap → ℕ → Option ℕ
due_at x zero = slot_of x
due_at x (suc q) = None

-- a slot is at home where its guard word is 0, and has what the merge says; else a seat has it
abbrev pub IsSlot : TableState → Table → Holders → ℕ → Type 0
IsSlot s t h k =
    (slice_index s.words k ≡ 0 → get_elem? s.homes k ≡ some (some (t.slots k)))
    × (slice_index s.words k ≢ 0 → (v : Told) × (get_elem? s.views (h.taker k) ≡ some v) × (slot_of v.under_way ≡ Some k))

-- a seat has a slot out, and knows what it took
pub record IsTaker (m : Machine) (s : TableState) (t : Table) (h : Holders) (id : ℕ) (v : Told) (x : Swap) : Type 0 where
  pub inside : x.slot < m.hkids
  pub mine : h.taker x.slot ≡ id
  pub guarded : slice_index s.words x.slot ≢ 0
  pub knows : t.slots x.slot ≡ x.taken
  pub own : 0 < length v.lists

-- list p of the merge is this one, of that seat
pub record IsList (made : List Made) (h : Holders) (id p : ℕ) (xs : List Taken) (due : Option ℕ) : Type 0 where
  pub owner : h.owner p ≡ id
  pub is : part p made ≡ xs
  pub due_is : h.due p ≡ due
  pub inside : p < h.total

-- what a seat knows is so
pub record IsTrue (m : Machine) (s : TableState) (made : List Made) (t : Table) (h : Holders) (id : ℕ) (v : Told) : Type 0 where
  pub lists : (q : ℕ) (xs : List Taken) → get_elem? v.lists q ≡ some xs → IsList made h id (h.base id + q) xs (due_at v.under_way q)
  pub first : v.first ≡ true → (h.base id ≡ 0) × (h.kept ≡ length v.lists) × (h.total ≡ length v.lists + v.out)
  pub other : v.first ≡ false → (length v.lists ≤ 1) × (0 < length v.lists → h.kept ≤ h.base id)
  pub busy : (x : Swap) → v.under_way ≡ Some x → IsTaker m s t h id v x

pub record Kept (m : Machine) (s : TableState) : Type 0 where
  pub narrow : m.hkids < guards
  pub made : List Made
  pub table : Table
  pub holders : Holders
  pub plays : Plays holders.due no_table made table
  pub wide : length s.words ≡ guards + word_count m
  pub words : (n : ℕ) → n < word_count m → slice_index s.words (guards + n) ≡ table.words n
  pub slots : (k : ℕ) → k < m.hkids → IsSlot s table holders k
  pub views : (id : ℕ) (v : Told) → get_elem? s.views id ≡ some v → IsTrue m s made table holders id v
  pub nothing_else : (p : ℕ) → holders.total ≤ p → (part p made ≡ []) × (holders.due p ≡ None)
