-- Where the entries of a TD's secure EPT stand, and the locks under which a call goes through them.
use Rattle.std.specs.Prelude.{◌≡◌, ◌⊎◌, ℕ, suc, ◌<◌, true, List}
use Rattle.td_words.specs.declared.names.PageKind.TheVariants as kind
use Rattle.td_words.specs.declared.machines.Machine.{Machine}
use Rattle.flat_core.specs.World.{World}
use Rattle.flat_core.specs.Processor.{OfPage, OfOp, OfTree, Held}
use Rattle.flat_core.specs.Lawful.{IsNodeOf}
use Rattle.flat_core.specs.Tree.{number_at}
use Rattle.lock_words.specs.Grips.{holds, holds_alone}

-- the secure EPT page in which the entry of a level stands that maps a GPA: the root, or the page that the entry above
-- it names
pub record HasEntry (m : Machine) (w : World) (t root page gpa level : ℕ) : Type 0 where
  pub in_machine : page < m.pages
  pub node : ((level ≡ 3) × (page ≡ root)) ⊎ ((level < 3) × IsNodeOf w.pages t page kind.Ept (suc level) (number_at (suc level) gpa))

-- the locks of a walk: P of the TDR page, O and T, in any mode
pub record HoldsTree (hs : List Held) (t : ℕ) : Type 0 where
  pub tdr : holds hs (OfPage t) ≡ true
  pub op : holds hs (OfOp t) ≡ true
  pub tree : holds hs (OfTree t) ≡ true

-- under T alone, and under O alone, no entry's word changes
abbrev pub HoldsEntries : List Held → ℕ → Type 0
HoldsEntries hs t = (holds_alone hs (OfTree t) ≡ true) ⊎ (holds_alone hs (OfOp t) ≡ true)
