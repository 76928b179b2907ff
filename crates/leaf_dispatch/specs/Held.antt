-- The locks that a run holds.
use Rattle.std.specs.Prelude.{List, [], Option, Some, None}
use Rattle.leaf_engine.specs.declared.events.HeldLock.{HeldLock}
use Rattle.leaf_engine.specs.Turns.{Standing}

-- the oldest first
abbrev pub held_by : Option Standing → List HeldLock
held_by None = []
held_by (Some s) = s.held
