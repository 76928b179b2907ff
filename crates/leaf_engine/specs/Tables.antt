-- A bench's table as memory: words by their addresses, and hashers by their slots.
use Rattle.std.specs.Prelude.{◌≡◌, ◌≢◌, ℕ, ◌-◌, ◌<◌, Option, List, [], ◌∷◌}
use Rattle.td_words.specs.declared.machines.Machine.{Machine}
use Rattle.td_words.specs.Place.{WordPlace, IsIn, address}
use Rattle.mrtd_measure.specs.declared.measures.Measure.{Measure}
use Rattle.step_core.specs.Items.{Table}
use Rattle.leaf_engine.specs.Changes.{Memory, Change, Put, PutHash, Raise, Clear, Copy, Swap}
use Rattle.leaf_engine.specs.Decides.{IsHand}
use Rattle.leaf_engine.specs.Means.{IsHkid}

-- the words of a machine and its slots are these, and so is the hasher in hand
pub record IsMemory (m : Machine) (t : Table) (hasher : Option Measure) (mem : Memory) : Type 0 where
  pub words : (q : WordPlace) → IsIn m q → t.words (address m.pages q) ≡ mem.words q
  pub slots : (h : ℕ) → IsHkid m h → IsHand (t.slots (h - 1)) (mem.slots h)
  pub hand : IsHand hasher mem.hand

-- a change of the machine's words and slots
abbrev pub IsChangeIn : Machine → Change → Type 0
IsChangeIn m (Put q x) = IsIn m q
IsChangeIn m (PutHash q x) = IsIn m q
IsChangeIn m (Raise q more) = IsIn m q
IsChangeIn m (Clear p) = p < m.pages
IsChangeIn m (Copy p q) = (p < m.pages) × (q < m.pages) × (p ≢ q)
IsChangeIn m (Swap h made) = IsHkid m h

abbrev pub AreChangesIn : Machine → List Change → Type 0
AreChangesIn m [] = Unit {0}
AreChangesIn m (c ∷ cs) = IsChangeIn m c × AreChangesIn m cs
