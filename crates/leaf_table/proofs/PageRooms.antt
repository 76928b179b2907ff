-- The room for a page's words stays where it is in a turn.
use Rattle.std.proofs.Common.{◌≡◌, ◌∙◌, ℕ, true, List, Option, Some, None, refl, ap}
use Rattle.leaf_table.specs.Origins.{LeafOrigin, origin_of}
use Rattle.leaf_table.specs.PageRooms.{leaf_room}
use Rattle.leaf_table.specs.declared.leaves.AnyLeaf.{AnyLeaf}

pub leaf-holds : (spare : Option (List ℕ)) (l k : AnyLeaf) → origin_of k ≡ origin_of l → leaf_room spare l ≡ true → leaf_room spare k ≡ true
leaf-holds (Some words) l k same room = refl
leaf-holds None l k same room = ap (λ (o : LeafOrigin). o.has_words) same ∙ room
