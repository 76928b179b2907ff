-- The destination's half of the law of the image: what a TD that is being imported has of the bundles that its source made (TD
-- Migration Architecture, "Migration Session Control"; ABI Reference, "TDH.IMPORT" leaf functions).
use Rattle.std.specs.Prelude.{◌≡◌, ◌≢◌, ℕ, ◌≤◌, List, ◌∷◌, ◌++◌, length, map, Option, Some, None, Bool, true, ◌==◌, ◌&&◌, All, slice_get}
use Rattle.std.specs.List.{list_any}
use Rattle.td_words.specs.declared.names.OpState.TheVariants as op
use Rattle.td_words.specs.declared.names.VcpuState.TheVariants as vcpu
use Rattle.flat_core.specs.World.{World, Image, Made}
use Rattle.flat_core.specs.Inputs.{word_given}
use Rattle.flat_core.specs.Lawful.{IsAlive}
use Rattle.flat_core.specs.Opening.{Opening, Incoming}
use Rattle.flat_core.specs.Event.{State, start, event}
use Rattle.flat_core.specs.Laws.{with_bundles, ArePagesKnown}
use Rattle.flat_core.specs.AccessLaw.{IsGuarded}
use Rattle.mig_laws.specs.Ivs.{IsImporting}
use Rattle.mig_laws.specs.Source.{known_words}
use Rattle.mig_laws.specs.WellMade.{is_of, is_token}
use Rattle.mig_laws.specs.Imported.{is_imported, last_imported, AreImported}
use Rattle.mig_laws.specs.States.{in_32_bits}
use Rattle.mig_laws.specs.Image.{IsComplete, Unforged, StartsAs, IsSource}

-- how many bundles of each stream were imported
abbrev pub counts_of : World → ℕ → List ℕ
counts_of w t = map w.streams.counters (w.tds.streams t)

-- a virtual processor at the index of a bundle of type 2 is READY, with its registers and its position
pub record IsVpGiven (w : World) (t : ℕ) (b : Made) : Type 0 where
  pub vp : ℕ
  pub place : slice_get (w.tds.vps t) b.header.index ≡ Some vp
  pub ready : w.vps.states vp ≡ vcpu.Ready
  pub registers : w.hidden.registers vp ≡ word_given b.payload
  pub position : w.vps.positions vp ≡ b.header.info

-- what an imported bundle has given: that of type 1 the RTMRs, once; one of type 2 the state of a virtual processor
pub record HasState (w : World) (t : ℕ) (b : Made) : Type 0 where
  pub td : b.header.kind ≡ 1 → (w.tds.ops t ≢ op.MemoryImport) × (w.hidden.rtmrs t ≡ word_given b.payload)
  pub vp : b.header.kind ≡ 2 → IsVpGiven w t b

-- the bundle of type 0 that began the session gave MRTD, and said how many virtual processors are expected
pub record IsBegunBy (w : World) (t : ℕ) (bundles : List Made) : Type 0 where
  pub before : List Made
  pub after : List Made
  pub first : Made
  pub place : bundles ≡ before ++ first ∷ after
  pub of_session : is_of (w.tds.sessions t) first ≡ true
  pub kind : first.header.kind ≡ 0
  pub mrtd : w.tds.mrtds t ≡ word_given first.payload
  pub expected : w.tds.vps_expected t ≡ first.header.info

-- a token that was imported begins this migration epoch
abbrev pub begins_epoch : (session : ℕ) (counts : List ℕ) (epoch : ℕ) → Made → Bool
begins_epoch s counts epoch b = is_imported s counts b && (is_token b && b.header.epoch == epoch)

-- Of a TD that is being imported: as many bundles of each stream as it has counted were imported, none of a later migration
-- epoch than it is in, which is the first one or was begun by a token that was imported; each page that it was given has the
-- last imported payload of that page; MRTD, the number of virtual processors, RTMRs, registers and positions are those that
-- were imported; and from POST_IMPORT on all up to the start token was.
pub record ImportHolds (bundles : List Made) (w : World) (t : ℕ) : Type 0 where
  pub have : AreImported (w.tds.sessions t) (counts_of w t) (w.tds.mig_epochs t) bundles
  pub tracked : w.tds.mig_epochs t ≢ 1 → list_any (begins_epoch (w.tds.sessions t) (counts_of w t) (w.tds.mig_epochs t)) bundles ≡ true
  pub pages : (n : ℕ) → known_words w t n ≡ last_imported (w.tds.sessions t) (counts_of w t) n bundles
  pub begun : IsBegunBy w t bundles
  pub states : All (λ b. is_imported (w.tds.sessions t) (counts_of w t) b ≡ true → HasState w t b) bundles
  pub few : length (w.tds.vps t) ≤ w.tds.vps_expected t
  pub complete : w.tds.ops t ≡ op.PostImport → IsComplete (w.tds.sessions t) (counts_of w t) bundles

-- What a destination keeps of one source: so it is of each TD that is being imported; the guest of one that is UNINITIALIZED
-- knows no page; and what was committed under a session starts from its pause, with 32 bits of each position.
pub record DestinationHolds (source w : World) : Type 0 where
  pub imports : (t : ℕ) → IsImporting w t → ImportHolds source.outgoing.bundles w t
  pub empty : (t : ℕ) → IsAlive w.pages w.tds t → w.tds.ops t ≡ op.Uninitialized → (n : ℕ) → w.hidden.memories t n ≡ None
  pub given : (session : ℕ) (start : Image) → w.hidden.given session ≡ Some start → StartsAs in_32_bits source session start

-- What is said of a state is kept by each event at which what has come in is as asked, whatever else has.
pub record IsKeptWhere (asked : Opening → Type 0) (holds : Opening → State → Type 0) : Type 0 where
  pub start : (o : Opening) (words_to_tell : Option (List ℕ)) → holds o (start o words_to_tell)
  pub event : (o : Opening) (bundles : ℕ → Option Incoming) (s : State) (p : ℕ) → asked (with_bundles o bundles) → holds o s → holds o (event (with_bundles o bundles) s p)

-- a destination of this source as runs have it
abbrev pub TakesIn : (source : World) → Opening → State → Type 0
TakesIn source o s = (IsGuarded o s × ArePagesKnown s.world) × DestinationHolds source s.world

-- Where the source is one, each event at which no tag is forged keeps it: IMPORT.COMMIT notes what the TD starts with, and of a
-- TD that is being imported no guest runs.
abbrev pub DestinationIsKept : Type 0
DestinationIsKept = (source : World) → IsSource source → IsKeptWhere (λ o. Unforged o source.outgoing.bundles) (TakesIn source)
