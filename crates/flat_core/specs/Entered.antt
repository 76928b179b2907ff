-- Virtual processors in guest, event by event: what others do leaves each as it is; and which are counted at an epoch, those
-- in guest, each on the logical processor with which it is associated.
use Rattle.std.specs.Prelude.{◌≡◌, ◌≢◌, ℕ, Option, Some}
use Rattle.flat_core.specs.Processor.{Guest}
use Rattle.flat_core.specs.Opening.{Opening, Incoming}
use Rattle.flat_core.specs.Event.{State, event}
use Rattle.flat_core.specs.Guests.{IsOccupied, Spares}
use Rattle.flat_core.specs.Inside.{AreTimely}
use Rattle.flat_core.specs.Laws.{with_bundles, IsKept, HoldsInRuns}

-- Where processors stand as they do in runs, the guest on p is a virtual processor that runs there, and each event of another
-- processor leaves it as it is: of that one's call or its guest's operation, an access, a step of a walk or a count step,
-- whatever bundles have come in. Other guests are other virtual processors'.
pub record EventsSpare : Type 0 where
  pub occupied : (o : Opening) (s : State) (p : ℕ) (g : Guest) → AreTimely o s → (s.lps p).guest ≡ Some g → IsOccupied s.world p g.tdr g.vp
  pub spared : (o : Opening) (bundles : ℕ → Option Incoming) (s : State) (p q : ℕ) (g : Guest) → AreTimely o s → (s.lps p).guest ≡ Some g → q ≢ p
      → Spares s.world (event (with_bundles o bundles) s q).world p g.tdr g.vp

-- where a virtual processor is in guest
pub record IsFound (s : State) (vp : ℕ) : Type 0 where
  pub lp : ℕ
  pub guest : Guest
  pub is : (s.lps lp).guest ≡ Some guest
  pub runs : guest.vp ≡ vp
  pub associated : s.world.vps.associated vp ≡ Some lp

-- so of each that is counted
abbrev pub EnteredAreIn : State → Type 0
EnteredAreIn s = (vp epoch : ℕ) → s.world.vps.entered vp ≡ Some epoch → IsFound s vp

abbrev pub EnteredIsKept : Type 0
EnteredIsKept = IsKept (λ o s. EnteredAreIn s)

abbrev pub EnteredAreInGuest : Type 0
EnteredAreInGuest = HoldsInRuns (λ o s. EnteredAreIn s)
