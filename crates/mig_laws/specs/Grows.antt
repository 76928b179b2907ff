-- A migration under way: while its source makes further bundles, what is said of a destination is said of it still. So the laws of
-- both sides hold of two machines in which a bundle that the one makes comes into the other (TD Migration Architecture,
-- "Migration Session Control").
use Rattle.std.specs.Prelude.{◌≡◌, ℕ, List, ◌++◌, Option, true}
use Rattle.flat_core.specs.World.{World, Made}
use Rattle.flat_core.specs.Opening.{Opening, Incoming}
use Rattle.flat_core.specs.Event.{State, event}
use Rattle.flat_core.specs.Laws.{with_bundles}
use Rattle.flat_core.specs.AccessLaw.{IsGuarded}
use Rattle.mig_laws.specs.Paused.{has_start, PausesHold}
use Rattle.mig_laws.specs.Image.{Unforged, IsSource}
use Rattle.mig_laws.specs.Imports.{DestinationHolds}

-- A source later on: it has made the same bundles and may have made more; and of a session with a start token the same image is
-- noted.
pub record IsLater (source later : World) : Type 0 where
  pub more : List Made
  pub made : later.outgoing.bundles ≡ source.outgoing.bundles ++ more
  pub noted : (session : ℕ) → has_start session source.outgoing.bundles ≡ true → later.hidden.paused session ≡ source.hidden.paused session

-- so it is after one event, over whatever bundles have come in
abbrev pub SourcesGoOn : Type 0
SourcesGoOn = (o : Opening) (bundles : ℕ → Option Incoming) (s : State) (p : ℕ) → IsGuarded o s → PausesHold s.world
    → IsLater s.world (event (with_bundles o bundles) s p).world

-- Then a destination has what it had of its source, and no tag that wasn't forged is forged.
abbrev pub DestinationsFollow : Type 0
DestinationsFollow = (source later w : World) → IsSource later → IsLater source later → DestinationHolds source w → DestinationHolds later w

abbrev pub UnforgedStays : Type 0
UnforgedStays = (source later : World) (o : Opening) → IsLater source later → Unforged o source.outgoing.bundles → Unforged o later.outgoing.bundles
