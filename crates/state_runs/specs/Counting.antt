-- A script's run up to an event.
use Rattle.std.specs.Prelude.{◌≡◌, ℕ, List}
use Rattle.flat_core.specs.Opening.{Opening}
use Rattle.flat_core.specs.Event.{State}
use Rattle.state_lines.specs.After.{after_events, state_after}

-- as many events as are due, by the items from this state on, lead to the state after the first n events
abbrev pub IsCounting : (n due : ℕ) → Opening → (schedule : List ℕ) → State → List ℕ → Type 0
IsCounting n due o schedule s items = after_events o due items s ≡ state_after o n schedule
