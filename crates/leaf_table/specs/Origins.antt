-- What no event changes of a leaf: whether it has the room for a page's words, the slot that its call names, and the bundle that
-- it was given (TD Migration Architecture, "Migration Bundles").
use Rattle.std.specs.Prelude.{◌≡◌, ℕ, Bool, Option, Some, None, is_some}
use Rattle.flat_core.specs.Opening.{Incoming}
use Rattle.leaf_table.specs.Given.{Given}
use Rattle.leaf_table.specs.BundlePlans.{plan_slot, plan_input}
use Rattle.leaf_table.specs.PageRooms.{has_words}
use Rattle.leaf_table.specs.declared.leaves.AnyLeaf.{AnyLeaf}
use Rattle.leaf_table.specs.declared.leaves.AnyLeaf.TheVariants as leaf

abbrev pub slot_in : AnyLeaf → Option ℕ
slot_in (leaf.ByBundle l) = Some (plan_slot l.plan)
slot_in (leaf.ImportTd l) = Some l.slot
slot_in (leaf.PageImport l) = Some l.slot
slot_in _ = None

abbrev pub bundle_in : AnyLeaf → Option Incoming
bundle_in (leaf.ByBundle l) = plan_input l.plan
bundle_in (leaf.ImportTd l) = l.input
bundle_in (leaf.PageImport l) = l.input
bundle_in _ = None

pub record LeafOrigin : Type 0 where
  pub has_words : Bool
  pub slot : Option ℕ
  pub bundle : Option Incoming

abbrev pub origin_of : AnyLeaf → LeafOrigin
origin_of l = record { has_words = has_words l; slot = slot_in l; bundle = bundle_in l }

-- the bundle of its slot, of those that a run is given
abbrev pub bundle_at : Given → Option ℕ → Option Incoming
bundle_at g None = None
bundle_at g (Some slot) = g.bundles slot

abbrev pub bundle_for : Given → AnyLeaf → Option Incoming
bundle_for g l = bundle_at g (slot_in l)

-- it was given that one
abbrev pub TakesFrom : Given → AnyLeaf → Type 0
TakesFrom g l = bundle_in l ≡ bundle_for g l

-- and where its call takes one, there is one
abbrev pub HasBundle : AnyLeaf → Type 0
HasBundle l = is_some (bundle_in l) ≡ is_some (slot_in l)
