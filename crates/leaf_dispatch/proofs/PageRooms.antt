-- The room for a page's words stays where it is in a turn.
use Rattle.std.proofs.Common.{◌≡◌, ℕ, true, List, Option, Some, None}
use Rattle.td_words.specs.declared.machines.Machine.{Machine}
use Rattle.step_core.specs.declared.items.Taken.{Taken}
use Rattle.leaf_engine.specs.declared.events.RunTurn.{RunTurn}
use Rattle.leaf_dispatch.specs.Running.{holds_room, HasTurned}
use Rattle.leaf_dispatch.specs.declared.running.Running.{Running}
use Rattle.leaf_table.proofs.PageRooms.{leaf-holds}

-- a turn of the run that is kept
pub turned-room : {B : Type 0} (did : List Taken → B → Type 0) (m : Machine) (spare : Option (List ℕ)) (kept kept' : Option Running) (bench : B) (turn : RunTurn) → HasTurned did m kept bench kept' turn → holds_room spare kept ≡ true → holds_room spare kept' ≡ true
turned-room did m spare None kept' bench turn t room = absurd t
turned-room did m spare (Some r) None bench turn t room = absurd t
turned-room did m spare (Some r) (Some r') bench turn t room = leaf-holds spare r.run.leaf r'.run.leaf t.3 room
