-- What a seat at the table knows, and how that changes.
use Rattle.std.specs.Prelude.{◌≡◌, ℕ, ◌+◌, ◌-◌, ◌<◌, true, false, Option, None, List, [], ◌∷◌, ◌++◌, length}
use Rattle.atomic_table.specs.declared.shared.Seat.{Seat}
use Rattle.mrtd_measure.specs.declared.measures.Measure.{Measure}
use Rattle.step_core.specs.declared.items.Taken.{Taken}
use Rattle.trace_table.specs.declared.told.Told.{Told}

-- how many words stand before the machine's own
abbrev pub guards : ℕ
guards = 256

-- the first seat, before it has made a step
abbrev pub first_told : Told
first_told = record { first = true; out = 0; lists = [] ∷ []; under_way = None }

-- a seat that was just made, and one that was taken in
abbrev pub new_told : Told
new_told = record { first = false; out = 0; lists = [] ∷ []; under_way = None }

abbrev pub spent_told : Told
spent_told = record { first = false; out = 0; lists = []; under_way = None }

-- lists of which the first, the seat's own, has these items more
abbrev pub grown_in : List (List Taken) → List Taken → List (List Taken)
grown_in [] xs = []
grown_in (own ∷ ls) xs = (own ++ xs) ∷ ls

abbrev pub grown : Told → List Taken → Told
grown v xs = record v { lists = grown_in v.lists xs }

-- the first seat makes another, and takes one in
abbrev pub one_more_out : Told → Told
one_more_out v = record v { out = v.out + 1 }

abbrev pub joined_told : Told → Told → Told
joined_told v w = record v { lists = v.lists ++ w.lists; out = v.out - 1 }

-- A seat between two calls holds no slot and has no swap under way. It has its own list; any but the first keeps no other
-- list, and has no bench out.
pub record IsAtRest (s : Seat (Option Measure) Told) : Type 0 where
  pub holds_none : s.me.1 ≡ []
  pub idle : s.me.0.under_way ≡ None
  pub own : 0 < length s.me.0.lists
  pub alone : s.me.0.first ≡ false → (length s.me.0.lists ≡ 1) × (s.me.0.out ≡ 0)
