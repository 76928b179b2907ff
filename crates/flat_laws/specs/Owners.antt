-- Who owns which page (Base Architecture, "Physical Address Metadata Table" and "Secure EPT"), in every state of every run.
use Rattle.std.specs.Prelude.{◌≡◌, ℕ, true}
use Rattle.flat_core.specs.World.{World}
use Rattle.flat_core.specs.Lawful.{IsAlive, is_named_kind}
use Rattle.flat_core.specs.Laws.{HoldsInRuns}
use Rattle.flat_core.specs.Access.{Names}

-- the page is a secure EPT page or a private page, of that TD
pub record IsMemoryOf (w : World) (t page : ℕ) : Type 0 where
  pub kind : is_named_kind (w.pages.kinds page) ≡ true
  pub owner : w.pages.owners page ≡ t

-- the TD's map names the page, in its entry of that level and number
abbrev pub IsMappedAt : World → (t page level number : ℕ) → Type 0
IsMappedAt w t page level number = Names (w.tds.entries t level number) page

-- Of TDs that are alive: each one's map names its secure EPT and private pages, and no others; and no two entries name one
-- page, be they of one TD or of two.
pub record HasItsOwner (w : World) (page : ℕ) : Type 0 where
  pub named : (t : ℕ) → IsAlive w.pages w.tds t → IsMemoryOf w t page → (level : ℕ) × (number : ℕ) × IsMappedAt w t page level number
  pub owned : (t level number : ℕ) → IsAlive w.pages w.tds t → IsMappedAt w t page level number → IsMemoryOf w t page
  pub once : (t level number u other index : ℕ) → IsAlive w.pages w.tds t → IsAlive w.pages w.tds u → IsMappedAt w t page level number → IsMappedAt w u page other index
      → (t ≡ u) × (level ≡ other) × (number ≡ index)

abbrev pub EveryPageHasItsOwner : Type 0
EveryPageHasItsOwner = HoldsInRuns (λ o s. (page : ℕ) → HasItsOwner s.world page)
