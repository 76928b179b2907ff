-- Two hosts that run at the same time, where the one may export and the other takes in what it made: what an event of either keeps,
-- whatever bundles have come in by then (TD Migration Architecture, "Migration Session Control").
use Rattle.std.specs.Prelude.{◌≡◌, ℕ, List, Option, Some}
use Rattle.flat_core.specs.World.{Image}
use Rattle.flat_core.specs.Opening.{Opening, Incoming}
use Rattle.flat_core.specs.Event.{State, start, event}
use Rattle.flat_core.specs.Run.{bundles_in}
use Rattle.flat_core.specs.Laws.{with_bundles}
use Rattle.mig_laws.specs.States.{PositionsIn}
use Rattle.mig_laws.specs.Image.{Unforged, StartsFromPauseOf}
use Rattle.mig_laws.specs.Imports.{TakesIn}
use Rattle.mig_laws.specs.Started.{MayExport}

-- the source's state of one opening, and the destination's of another: the destination has nothing but what this source made
pub record AreHosts (q o : Opening) (source destination : State) : Type 0 where
  pub exports : MayExport q source
  pub positions : PositionsIn q source
  pub imports : TakesIn source.world o destination

-- Two hosts are so at their start. An event of the source keeps it, whatever has come in; and so does one of the destination, where
-- what has come in and opens, but for tokens back, was made by the source by then. And so what the destination has committed under
-- a session starts from the source's pause.
pub record HostsAreKept : Type 0 where
  pub begin : (q o : Opening) (tells words_to_tell : Option (List ℕ)) → AreHosts q o (start q tells) (start o words_to_tell)
  pub source : (q o : Opening) (bundles : ℕ → Option Incoming) (source destination : State) (p : ℕ)
      → AreHosts q o source destination → AreHosts q o (event (with_bundles q bundles) source p) destination
  pub destination : (q o : Opening) (bundles : ℕ → Option Incoming) (source destination : State) (p : ℕ)
      → let now = with_bundles o bundles in
      Unforged now (bundles_in source) → AreHosts q o source destination → AreHosts q o source (event now destination p)
  pub images : (q o : Opening) (source destination : State) → AreHosts q o source destination
      → (session : ℕ) (start : Image) → destination.world.hidden.given session ≡ Some start → StartsFromPauseOf q source.world session start
