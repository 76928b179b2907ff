-- What a start token says of the states of its TD and of its virtual processors: they were exported as they were at the pause
-- (TD Migration Architecture, "Migration Session Control").
use Rattle.std.specs.Prelude.{◌≡◌, ℕ, ◌%◌, ◌^◌, ◌≤◌, length, map, Some, true, All, slice_get}
use Rattle.flat_core.specs.World.{World, VpImage, Image, Made}
use Rattle.flat_core.specs.Opening.{Opening}
use Rattle.flat_core.specs.Digests.{six_words}
use Rattle.flat_core.specs.Sessions.{payload_words}
use Rattle.flat_core.specs.ExportRows.{image_of}
use Rattle.flat_core.specs.Event.{State}
use Rattle.flat_core.specs.Run.{bundles_in}
use Rattle.flat_core.specs.Laws.{IsKept, HoldsInRuns, ArePagesKnown}
use Rattle.flat_core.specs.AccessLaw.{IsGuarded}
use Rattle.flat_core.specs.Inside.{AreTimely}
use Rattle.flat_bundles.specs.Formed.{AreCodesShort, FormsHold}
use Rattle.mig_laws.specs.Ivs.{IsExporting}
use Rattle.mig_laws.specs.Source.{SourceHolds}
use Rattle.mig_laws.specs.Paused.{has_start, is_paused, PausesHold}
use Rattle.mig_laws.specs.WellMade.{is_of}

-- a bundle of type 2 has the registers of the virtual processor of its index, and its position
pub record IsVpState (image : Image) (b : Made) : Type 0 where
  pub vp : VpImage
  pub place : slice_get image.vps b.header.index ≡ Some vp
  pub words : b.payload ≡ payload_words vp.registers 8
  pub position : b.header.info ≡ vp.position

-- what a bundle says of an image: that of type 0 MRTD and how many virtual processors there are, that of type 1 the RTMRs
pub record IsStateOf (image : Image) (b : Made) : Type 0 where
  pub first : b.header.kind ≡ 0 → (b.payload ≡ six_words image.mrtd) × (b.header.info ≡ length image.vps)
  pub td : b.header.kind ≡ 1 → b.payload ≡ payload_words image.rtmrs 24
  pub vp : b.header.kind ≡ 2 → IsVpState image b

-- EXPORT.PAUSE noted an image under the session, and its bundles say what that image is, as it is seen.
pub record AreStatesAs (seen : Image → Image) (w : World) (session : ℕ) : Type 0 where
  pub image : Image
  pub noted : w.hidden.paused session ≡ Some image
  pub states : All (λ b. is_of session b ≡ true → IsStateOf (seen image) b) w.outgoing.bundles

abbrev pub AreStatesAsPaused : World → (session : ℕ) → Type 0
AreStatesAsPaused w session = AreStatesAs (λ i. i) w session

-- Its bundle of type 2 has 32 bits of a position. That is the position where no guest's code has more than 256 operations, as none
-- of a script has.
abbrev pub vp_in_32_bits : VpImage → VpImage
vp_in_32_bits v = record v { position = v.position % 2 ^ 32 }

abbrev pub in_32_bits : Image → Image
in_32_bits i = record i { vps = map vp_in_32_bits i.vps }

-- So it is in every run.
abbrev pub StatesSentAreAsPaused : Type 0
StatesSentAreAsPaused = HoldsInRuns (λ o s. (session : ℕ) → has_start session (bundles_in s) ≡ true
    → AreStatesAs in_32_bits s.world session × (AreCodesShort o → AreStatesAsPaused s.world session))

-- Why it is so, world by world: the states are exported once the TD is paused, and from then on it is its image
pub record IsOwnState (w : World) (t : ℕ) (b : Made) : Type 0 where
  pub first : b.header.kind ≡ 0 → (b.payload ≡ six_words (w.tds.mrtds t)) × (b.header.info ≡ length (w.tds.vps t))
  pub td : b.header.kind ≡ 1 → (is_paused (w.tds.ops t) ≡ true) × (b.payload ≡ payload_words (w.hidden.rtmrs t) 24)
  pub vp : b.header.kind ≡ 2 → (is_paused (w.tds.ops t) ≡ true) × IsVpState (in_32_bits (image_of w t)) b

pub record StatesHold (w : World) : Type 0 where
  pub images : (t : ℕ) → IsExporting w t → is_paused (w.tds.ops t) ≡ true → w.hidden.paused (w.tds.sessions t) ≡ Some (image_of w t)
  pub states : (t : ℕ) → IsExporting w t → All (λ b. is_of (w.tds.sessions t) b ≡ true → IsOwnState w t b) w.outgoing.bundles
  pub sent : (session : ℕ) → has_start session w.outgoing.bundles ≡ true → AreStatesAs in_32_bits w session

abbrev pub StatesAreKept : Type 0
StatesAreKept = IsKept (λ o s. (((IsGuarded o s × ArePagesKnown s.world) × SourceHolds s.world) × PausesHold s.world) × StatesHold s.world)

-- no virtual processor of an image that EXPORT.PAUSE noted is behind the 256th operation
abbrev pub ArePausesShort : World → Type 0
ArePausesShort w = (session : ℕ) (image : Image) → w.hidden.paused session ≡ Some image → All (λ v. v.position ≤ 256) image.vps

-- a source as runs have it
abbrev pub PositionsIn : Opening → State → Type 0
PositionsIn o s = (AreTimely o s × (AreCodesShort o → FormsHold s.world)) × (AreCodesShort o → ArePausesShort s.world)

abbrev pub PositionsAreKept : Type 0
PositionsAreKept = IsKept PositionsIn
