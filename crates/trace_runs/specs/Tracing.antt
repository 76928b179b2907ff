-- A script's run as far as it was traced.
use Rattle.std.specs.Prelude.{◌≡◌, ℕ, ◌+◌, List, ◌++◌, length, Option, Some, None}
use Rattle.flat_core.specs.Opening.{Opening}
use Rattle.flat_core.specs.Event.{State}
use Rattle.leaf_engine.specs.Guests.{Step}
use Rattle.trace_lines.specs.declared.traces.What.{What}
use Rattle.trace_lines.specs.declared.traces.What.TheVariants as what
use Rattle.trace_lines.specs.declared.traces.Traced.{Traced}
use Rattle.trace_lines.specs.Traces.{traces_from, traces}
use Rattle.std.specs.Global.{Vec}
use Rattle.trace_laws.specs.Told.{step_told}

-- the act of a processor whose guest's next step this is, or that is in no guest
abbrev pub act_by : Option Step → What
act_by None = what.Acts
act_by (Some s) = step_told s

-- these events of the trace are told, and the items from this state on tell the others
abbrev pub IsTelling : Vec Traced → Opening → (schedule : List ℕ) → State → List ℕ → Type 0
IsTelling told o schedule s items = traces o schedule ≡ told.items ++ traces_from o s (length told.items + 1) items
