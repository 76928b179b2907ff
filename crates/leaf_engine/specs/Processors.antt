-- What a turn of a processor comes to.
use Rattle.std.specs.Prelude.{◌≡◌, ℕ, ◌<◌, Bool, true, false, List, []}
use Rattle.step_core.specs.declared.items.Taken.{Taken}
use Rattle.leaf_engine.specs.OwnLists.{Piece, taken_in}
use Rattle.leaf_engine.specs.declared.events.Event.{Event}
use Rattle.leaf_engine.specs.declared.processors.Turn.{Turn}
use Rattle.leaf_engine.specs.declared.processors.Turn.TheVariants as turn

abbrev pub has_moved : Turn → Bool
has_moved (turn.Moved e) = true
has_moved turn.Ended = false

-- an event was made, in pieces, and fewer are left; or nothing was done
abbrev pub Turned : {P B : Type 0} → (P → Event → List Piece → P → Type 0) → (P → ℕ) → (List Taken → B → Type 0) → P → B → P → Turn → Type 0
Turned moves bound did p bench p' (turn.Moved e) = ((ps : List Piece) × did (taken_in ps) bench × moves p e ps p') × (bound p' < bound p)
Turned moves bound did p bench p' turn.Ended = did [] bench × (p' ≡ p)
