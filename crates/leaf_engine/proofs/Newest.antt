-- Whether the newest lock of a run is an E.
use Rattle.std.proofs.Common.{◌≡◌, ◌-◌, Bool, false, List, [], ◌∷◌, length, Option, Some, None, slice_get, refl}
use native.Mathlib.Numerals.{unary_clauses}
use Rattle.leaf_engine.specs.declared.events.HeldLock.{HeldLock}
use Rattle.leaf_engine.specs.Guests.{is_epoch_name, gives_epoch_back}

abbrev pub is_epoch : Option HeldLock → Bool
is_epoch None = false
is_epoch (Some h) = is_epoch_name h.name

-- it is the last one
pub by-newest : (hs : List HeldLock) → gives_epoch_back hs ≡ is_epoch (slice_get hs (length hs - 1))
by-newest [] = refl
by-newest (h ∷ []) = refl
by-newest (h ∷ k ∷ ks) = let same = by-newest (k ∷ ks) in simp unary_clauses (simp unary_clauses at same)
