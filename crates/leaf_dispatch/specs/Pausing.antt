-- A run whose leaf gives the bundle up that it was given, and takes one again.
use Rattle.std.specs.Prelude.{◌≡◌, Option, Some, None}
use Rattle.flat_core.specs.Opening.{Incoming}
use Rattle.leaf_engine.specs.Turns.{Standing, standing}
use Rattle.leaf_table.specs.Given.{Given}
use Rattle.leaf_table.specs.Leaves.{leaf_seen, seen_with}
use Rattle.leaf_table.specs.Origins.{slot_in, bundle_for, TakesFrom}
use Rattle.leaf_table.specs.PageRooms.{has_words}
use Rattle.leaf_dispatch.specs.declared.running.Running.{Running}

-- how far it is, with this bundle in place of its leaf's own
abbrev pub stands_with : Option Incoming → Running → Standing
stands_with b r = standing (seen_with b r.run.leaf).rest r.run.stage r.run.held.items r.run.hasher

-- as far as the other
pub record IsAsFar (r p : Running) : Type 0 where
  pub slot : slot_in p.run.leaf ≡ slot_in r.run.leaf
  pub words : has_words p.run.leaf ≡ has_words r.run.leaf
  pub stage : p.run.stage ≡ r.run.stage
  pub held : p.run.held ≡ r.run.held
  pub hasher : p.run.hasher ≡ r.run.hasher

-- the same run without its bundle
pub record IsWithoutInput (r p : Running) : Type 0 where
  pub far : IsAsFar r p
  pub seen : (b : Option Incoming) → seen_with b p.run.leaf ≡ seen_with b r.run.leaf

abbrev pub AreWithoutInput : (before after : Option Running) → Type 0
AreWithoutInput None None = Unit {0}
AreWithoutInput (Some r) (Some p) = IsWithoutInput r p
AreWithoutInput None (Some p) = ⊥
AreWithoutInput (Some r) None = ⊥

-- the same run with the bundle that its slot has
pub record IsWithInput (g : Given) (p r : Running) : Type 0 where
  pub far : IsAsFar p r
  pub seen : leaf_seen r.run.leaf ≡ seen_with (bundle_for g p.run.leaf) p.run.leaf
  pub takes : TakesFrom g r.run.leaf

abbrev pub AreWithInput : Given → (before after : Option Running) → Type 0
AreWithInput g None None = Unit {0}
AreWithInput g (Some p) (Some r) = IsWithInput g p r
AreWithInput g None (Some r) = ⊥
AreWithInput g (Some p) None = ⊥
