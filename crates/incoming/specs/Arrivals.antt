-- The bundles that came in, by their slots.
use Rattle.std.specs.Prelude.{◌≤◌, ◌<◌, ℕ, List, [], ◌∷◌, ◌==◌, if◌then◌else◌, Option, Some, None, All, AllPairs}
use Rattle.std.specs.List.{slice_range}
use Rattle.td_words.specs.Seen.{BundleSeen}
use Rattle.flat_core.specs.Opening.{Incoming}
use Rattle.incoming.specs.declared.arrivals.Kept.{Kept}
use Rattle.incoming.specs.Opened.{clear_of, opened}

-- a bundle in its slot
pub record SlotIncoming : Type 0 where
  pub slot : ℕ
  pub bundle : Incoming

abbrev pub incoming_in : (forward backward : List ℕ) → BundleSeen → SlotIncoming
incoming_in forward backward b = record { slot = b.slot; bundle = opened forward backward b.bytes }

-- the bundle in a slot, if there is one
abbrev pub at_slot : List SlotIncoming → ℕ → Option Incoming
at_slot [] slot = None
at_slot (b ∷ bs) slot = if b.slot == slot then Some b.bundle else at_slot bs slot

-- one of those that are kept, by all payload words
abbrev pub arrived : List ℕ → Kept → SlotIncoming
arrived words k = record { slot = k.slot; bundle = record { header = clear_of k.header; opens = k.opens; payload = slice_range words k.from k.to } }

-- each payload stands within so many words
pub record StandsWithin (n : ℕ) (k : Kept) : Type 0 where
  pub order : k.from ≤ k.to
  pub inside : k.to ≤ n

abbrev pub StandWithin : ℕ → List Kept → Type 0
StandWithin n ks = All (StandsWithin n) ks

-- and slots rise
abbrev pub SlotsRise : List Kept → Type 0
SlotsRise ks = AllPairs (λ a b. a.slot < b.slot) ks
