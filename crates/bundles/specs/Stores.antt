-- What contracts see of the bundles of a logical processor.
use Rattle.std.specs.Prelude.{ℕ, ◌≤◌, List, All, slice_range}
use Rattle.flat_core.specs.World.{Made}
use Rattle.flat_core.specs.Opening.{clear_header}
use Rattle.bundles.specs.declared.stores.Kept.{Kept}

-- those that were made, in order; and how many more there is room for, and for how many more payload words
pub record Stored : Type 0 where
  pub made : List Made
  pub room : ℕ
  pub word_room : ℕ

-- one of them, by all payload words
abbrev pub made_of : List ℕ → Kept → Made
made_of words k = record { slot = k.slot; header = clear_header k.header; payload = slice_range words k.from k.to }

-- each payload stands within so many words
pub record StandsWithin (n : ℕ) (k : Kept) : Type 0 where
  pub order : k.from ≤ k.to
  pub inside : k.to ≤ n

abbrev pub StandWithin : ℕ → List Kept → Type 0
StandWithin n ks = All (StandsWithin n) ks
