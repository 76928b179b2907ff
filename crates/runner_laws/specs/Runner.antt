-- Of two hosts that both hold a TD, at most one runs it: from its pause on its source doesn't where the import is committed, and
-- before the commit its destination doesn't (TD Migration Architecture, "Migration Session Control").
use Rattle.std.specs.Prelude.{◌≡◌, ◌≢◌, ℕ, ◌≤◌, List, [], ◌∷◌, Option, Some, None, Ok, Bool, true, false, All}
use Rattle.td_words.specs.declared.names.OpState.{OpState}
use Rattle.td_words.specs.declared.names.OpState.TheVariants as op
use Rattle.td_words.specs.declared.calls.Call.{Call}
use Rattle.td_words.specs.declared.calls.Call.TheVariants.{ExportAbortByToken}
use Rattle.flat_core.specs.World.{World, Image, ClearHeader, Made}
use Rattle.flat_core.specs.Processor.{Guest}
use Rattle.flat_core.specs.Opening.{Opening, Incoming}
use Rattle.flat_core.specs.Lawful.{IsAlive}
use Rattle.flat_core.specs.Event.{State, lines_left, event}
use Rattle.flat_core.specs.Run.{play, bundles_in}
use Rattle.flat_core.specs.Inside.{AreTimely}
use Rattle.flat_core.specs.Laws.{reached, IsKept, HoldsInRuns, ArePagesKnown}
use Rattle.flat_core.specs.AccessLaw.{IsGuarded}
use Rattle.mig_laws.specs.Ivs.{is_forward, IsExporting, IsImporting}
use Rattle.mig_laws.specs.Source.{SourceHolds}
use Rattle.mig_laws.specs.Image.{IsMade, Unforged}
use Rattle.mig_laws.specs.Paused.{has_start, is_paused}

-- a TD runs: a guest of it is on a logical processor
pub record Runs (s : State) (t : ℕ) : Type 0 where
  pub lp : ℕ
  pub guest : Guest
  pub there : (s.lps lp).guest ≡ Some guest
  pub own : guest.tdr ≡ t

-- no event of this schedule tears the TD down
abbrev pub LivesThrough : Opening → List ℕ → State → (t : ℕ) → Type 0
LivesThrough o [] s t = IsAlive s.world.pages s.world.tds t
LivesThrough o (p ∷ ps) s t = IsAlive s.world.pages s.world.tds t × LivesThrough o ps (event o s p) t

-- a TD is exported under this session; and is imported under it
pub record IsExportedAs (w : World) (t session : ℕ) : Type 0 where
  pub exporting : IsExporting w t
  pub own : w.tds.sessions t ≡ session

pub record IsImportedAs (w : World) (t session : ℕ) : Type 0 where
  pub importing : IsImporting w t
  pub own : w.tds.sessions t ≡ session

-- a TD is exported under this session, and paused
pub record IsPausedAs (w : World) (t session : ℕ) : Type 0 where
  pub exported : IsExportedAs w t session
  pub paused : is_paused (w.tds.ops t) ≡ true

-- A TD whose start token was made rests. So does one whose import isn't committed, or was given up: it waits.
pub record RestsAs (w : World) (t session : ℕ) : Type 0 where
  pub exported : IsExportedAs w t session
  pub started : w.tds.ops t ≡ op.PostExport

abbrev pub is_waiting : OpState → Bool
is_waiting op.MemoryImport = true
is_waiting op.StateImport = true
is_waiting op.PostImport = true
is_waiting op.FailedImport = true
is_waiting _ = false

pub record WaitsAs (w : World) (t session : ℕ) : Type 0 where
  pub alive : IsAlive w.pages w.tds t
  pub waiting : is_waiting (w.tds.ops t) ≡ true
  pub own : w.tds.sessions t ≡ session

-- the call is EXPORT.ABORT with the slot of a bundle that opens, of type 6 and of this session
pub record IsCalledBack (o : Opening) (t session : ℕ) (c : Call) : Type 0 where
  pub slot : ℕ
  pub call_is : c ≡ ExportAbortByToken t slot
  pub bundle : Incoming
  pub there : o.bundles slot ≡ Some bundle
  pub header : ClearHeader
  pub header_is : bundle.header ≡ Ok header
  pub right : bundle.«opens» ≡ true
  pub kind : header.kind ≡ 6
  pub own : header.session ≡ session

-- What an event of processor p makes of a TD that rests: it rests still, or is torn down, or is RUNNABLE by the processor's call.
pub data IsAfterRest (o : Opening) (s : State) (p t session : ℕ) (after : World) : Type 0 where
  rests : RestsAs after t session → IsAfterRest o s p t session after
  torn_down : (IsAlive after.pages after.tds t → ⊥) → IsAfterRest o s p t session after
  called_back : (c : Call) (cs : List Call) → lines_left o p (s.lps p) ≡ c ∷ cs → IsCalledBack o t session c → after.tds.ops t ≡ op.Runnable → IsAfterRest o s p t session after

-- A TD that rests doesn't run, in any state as runs have it, and goes on only with such a call.
abbrev pub SentTdsRest : Type 0
SentTdsRest = (o : Opening) (s : State) (p t session : ℕ) → AreTimely o s → RestsAs s.world t session → IsAfterRest o s p t session (event o s p).world × (Runs s t → ⊥)

-- a session that is over at its destination: it was imported, no import stands under it, and no token back has it
pub record IsOver (w : World) (session : ℕ) : Type 0 where
  pub imported : session ≤ w.key_table.last_imported
  pub ended : (t : ℕ) → IsImporting w t → w.tds.sessions t ≢ session
  pub kept : All (λ b. is_forward b ≡ false → b.header.session ≢ session) w.outgoing.bundles

-- so is each session that was committed
abbrev pub CommitsHold : World → Type 0
CommitsHold w = (session : ℕ) (start : Image) → w.hidden.given session ≡ Some start → IsOver w session

abbrev pub CommitsAreKept : Type 0
CommitsAreKept = IsKept (λ o s. ((IsGuarded o s × ArePagesKnown s.world) × SourceHolds s.world) × CommitsHold s.world)

-- In every state of every run no bundle of type 6 that the run made has a session that it committed.
abbrev pub NoneGivenBack : Type 0
NoneGivenBack = HoldsInRuns (λ o s. (session : ℕ) (start : Image) → s.world.hidden.given session ≡ Some start → All (λ b. is_forward b ≡ false → b.header.session ≢ session) (bundles_in s))

-- each bundle of type 6 that comes in and opens is one of these
abbrev pub Returned : Opening → List Made → Type 0
Returned o back = (slot : ℕ) (b : Incoming) (h : ClearHeader) → o.bundles slot ≡ Some b → b.header ≡ Ok h → b.«opens» ≡ true → h.kind ≡ 6 → IsMade h b.payload back

-- No tag is forged, and no third run has the keys: each bundle of types 0 to 5 that comes into the destination, of whatever session,
-- and each of type 6 that comes into the source, was made by the other where it opens.
pub record AreUnforged (source destination : Opening) (made back : List Made) : Type 0 where
  pub forward : Unforged destination made
  pub returned : Returned source back

-- A session that the destination has committed has its start token from the source.
abbrev pub CommitsAreStarted : Type 0
CommitsAreStarted = (q o : Opening) (tells words_to_tell : Option (List ℕ)) (before schedule : List ℕ) (session : ℕ) (start : Image)
    → let source = reached q tells before in
    let destination = reached o words_to_tell schedule in
    Unforged o (bundles_in source) → destination.world.hidden.given session ≡ Some start → has_start session (bundles_in source) ≡ true

-- Where the destination commits the import in its run, the source's TD rests from its start token on, and doesn't run, until it
-- is torn down, however far the source's run goes on.
abbrev pub SourcesRest : Type 0
SourcesRest = (q o : Opening) (tells words_to_tell : Option (List ℕ)) (before after more schedule : List ℕ) (t session : ℕ) (start : Image)
    → let first = reached q tells before in
    let source = play q after first in
    let destination = reached o words_to_tell schedule in
    AreUnforged q o (bundles_in (play q more source)) (bundles_in destination) → IsExportedAs first.world t session → LivesThrough q after first t
    → destination.world.hidden.given session ≡ Some start → has_start session (bundles_in source) ≡ true → RestsAs source.world t session × (Runs source t → ⊥)

-- From EXPORT.PAUSE on it is paused, and doesn't run.
abbrev pub PausedSourcesStay : Type 0
PausedSourcesStay = (q o : Opening) (tells words_to_tell : Option (List ℕ)) (before after more schedule : List ℕ) (t session : ℕ) (start : Image)
    → let first = reached q tells before in
    let source = play q after first in
    let destination = reached o words_to_tell schedule in
    AreUnforged q o (bundles_in (play q more source)) (bundles_in destination) → IsPausedAs first.world t session → LivesThrough q after first t
    → destination.world.hidden.given session ≡ Some start → IsPausedAs source.world t session × (Runs source t → ⊥)

-- Until the destination has committed the import, its TD waits, and doesn't run.
abbrev pub DestinationsWait : Type 0
DestinationsWait = (o : Opening) (words_to_tell : Option (List ℕ)) (before after : List ℕ) (u session : ℕ)
    → let first = reached o words_to_tell before in
    let destination = play o after first in
    IsImportedAs first.world u session → LivesThrough o after first u → destination.world.hidden.given session ≡ None → WaitsAs destination.world u session × (Runs destination u → ⊥)

-- So of the two at most one runs: the source's from its pause on, and the destination's, wherever the two runs stand, and
-- whatever comes in them later.
abbrev pub AtMostOneRuns : Type 0
AtMostOneRuns = (q o : Opening) (tells words_to_tell : Option (List ℕ)) (before after more earlier later rest : List ℕ) (t u session : ℕ)
    → let first = reached q tells before in
    let source = play q after first in
    let begun = reached o words_to_tell earlier in
    let destination = play o later begun in
    AreUnforged q o (bundles_in (play q more source)) (bundles_in (play o rest destination)) → IsPausedAs first.world t session → LivesThrough q after first t
    → IsImportedAs begun.world u session → LivesThrough o later begun u → Runs source t → Runs destination u → ⊥
