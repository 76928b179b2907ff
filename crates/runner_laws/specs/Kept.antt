-- Why at most one of two hosts runs a TD, event by event, whatever bundles have come in by then: so it is of two hosts that run at
-- the same time, where what the one makes comes into the other (TD Migration Architecture, "Migration Session Control").
use Rattle.std.specs.Prelude.{◌≡◌, ◌≢◌, ℕ, ◌≤◌, Option, Some, None, Bool, true, false, ◌==◌, ◌&&◌}
use Rattle.std.specs.List.{list_any}
use Rattle.td_words.specs.declared.calls.Call.{Call}
use Rattle.flat_core.specs.World.{World, Image, Made}
use Rattle.flat_core.specs.Opening.{Opening, Incoming}
use Rattle.flat_core.specs.Lawful.{IsAlive}
use Rattle.flat_core.specs.Event.{State, event}
use Rattle.flat_core.specs.Run.{bundles_in}
use Rattle.flat_core.specs.Inside.{AreTimely}
use Rattle.flat_core.specs.Laws.{with_bundles, ArePagesKnown}
use Rattle.flat_core.specs.AccessLaw.{IsGuarded}
use Rattle.mig_laws.specs.Ivs.{IsExporting}
use Rattle.mig_laws.specs.Source.{SourceHolds}
use Rattle.mig_laws.specs.Paused.{has_start, is_paused, PausesHold}
use Rattle.mig_laws.specs.Imports.{DestinationHolds}
use Rattle.runner_laws.specs.Runner.{Runs, IsExportedAs, IsImportedAs, IsPausedAs, RestsAs, WaitsAs, IsCalledBack, CommitsHold, Returned}

-- a source as runs have it, and a destination
abbrev pub PausesIn : Opening → State → Type 0
PausesIn o s = ((IsGuarded o s × ArePagesKnown s.world) × SourceHolds s.world) × PausesHold s.world

abbrev pub CommitsIn : Opening → State → Type 0
CommitsIn o s = ((IsGuarded o s × ArePagesKnown s.world) × SourceHolds s.world) × CommitsHold s.world

-- a session that ended before its start token: no export stands under it, and it has no such token
pub record IsUnstarted (w : World) (session : ℕ) : Type 0 where
  pub exported : session ≤ w.key_table.last_exported
  pub ended : (t : ℕ) → IsExporting w t → w.tds.sessions t ≢ session
  pub unstarted : has_start session w.outgoing.bundles ≡ false

-- What is kept of a TD that was exported under a session: it still is, and is paused where it was; or the session ended before its
-- start token.
pub data IsSent (was_paused : Bool) (w : World) (t session : ℕ) : Type 0 where
  exported : IsExportedAs w t session → (was_paused ≡ true → is_paused (w.tds.ops t) ≡ true) → IsSent was_paused w t session
  aborted : IsUnstarted w session → IsSent was_paused w t session

-- One event keeps it of a TD that isn't torn down, where no token back of its session has come in; and where the session has a
-- start token, the TD rests, and doesn't run.
abbrev pub SentIsKept : Type 0
SentIsKept = (was_paused : Bool) (o : Opening) (bundles : ℕ → Option Incoming) (s : State) (p t session : ℕ)
    → let now = with_bundles o bundles in let after = event now s p in
    PausesIn o s → ((c : Call) → IsCalledBack now t session c → ⊥) → IsAlive after.world.pages after.world.tds t
    → IsSent was_paused s.world t session → IsSent was_paused after.world t session

abbrev pub SentRests : Type 0
SentRests = (was_paused : Bool) (o : Opening) (s : State) (t session : ℕ)
    → PausesIn o s → has_start session (bundles_in s) ≡ true → IsSent was_paused s.world t session → RestsAs s.world t session × (Runs s t → ⊥)

-- What is kept of a TD that was imported under a session: it waits, or the session is committed.
pub data IsDue (w : World) (t session : ℕ) : Type 0 where
  waiting : WaitsAs w t session → IsDue w t session
  noted : (image : Image) → w.hidden.given session ≡ Some image → IsDue w t session

-- One event keeps it of a TD that isn't torn down; and until the session is committed the TD waits, and doesn't run.
abbrev pub DueIsKept : Type 0
DueIsKept = (o : Opening) (bundles : ℕ → Option Incoming) (s : State) (p t session : ℕ) → let after = event (with_bundles o bundles) s p in
    IsAlive after.world.pages after.world.tds t → IsDue s.world t session → IsDue after.world t session

abbrev pub DueWaits : Type 0
DueWaits = (o : Opening) (s : State) (t session : ℕ)
    → AreTimely o s → s.world.hidden.given session ≡ None → IsDue s.world t session → WaitsAs s.world t session × (Runs s t → ⊥)

-- What a destination has committed has its start token from the source.
abbrev pub CommitsHaveStarts : Type 0
CommitsHaveStarts = (source w : World) → DestinationHolds source w
    → (session : ℕ) (start : Image) → w.hidden.given session ≡ Some start → has_start session source.outgoing.bundles ≡ true

-- the token back of a session
abbrev pub is_back : (session : ℕ) → Made → Bool
is_back session b = b.header.kind == 6 && b.header.session == session

-- What is kept of two hosts that both hold a TD, the source's paused: it is sent, or the destination has made the token back; and
-- the destination's is due.
pub data IsSentOrBack (source destination : World) (t session : ℕ) : Type 0 where
  sent : IsSent true source t session → IsSentOrBack source destination t session
  given_back : list_any (is_back session) destination.outgoing.bundles ≡ true → IsSentOrBack source destination t session

pub record AreTwo (source destination : World) (t u session : ℕ) : Type 0 where
  pub sent : IsSentOrBack source destination t session
  pub due : IsDue destination u session

-- An event of either keeps it, of TDs that aren't torn down, where each token back that has come into the source was made by the
-- destination. And where the destination has nothing but what its source made, at most one of the two runs.
pub record TwoAreKept : Type 0 where
  pub begin : (source destination : World) (t u session : ℕ)
      → IsPausedAs source t session → IsImportedAs destination u session → AreTwo source destination t u session
  pub source : (o : Opening) (bundles : ℕ → Option Incoming) (s : State) (p : ℕ) (destination : World) (t u session : ℕ)
      → let now = with_bundles o bundles in let after = event now s p in
      PausesIn o s → Returned now destination.outgoing.bundles → IsAlive after.world.pages after.world.tds t
      → AreTwo s.world destination t u session → AreTwo after.world destination t u session
  pub destination : (o : Opening) (bundles : ℕ → Option Incoming) (s : State) (p : ℕ) (source : World) (t u session : ℕ)
      → let after = event (with_bundles o bundles) s p in
      IsAlive after.world.pages after.world.tds u → AreTwo source s.world t u session → AreTwo source after.world t u session
  pub one : (q o : Opening) (source destination : State) (t u session : ℕ)
      → PausesIn q source → CommitsIn o destination → DestinationHolds source.world destination.world
      → AreTwo source.world destination.world t u session → Runs source t → Runs destination u → ⊥
