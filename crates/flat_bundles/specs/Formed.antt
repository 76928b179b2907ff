-- The bundles that a run makes have the form of their types, so each is read again where it comes in (TD Migration
-- Architecture, "Migration Bundles").
use Rattle.std.specs.Prelude.{◌≡◌, ℕ, ◌*◌, ◌≤◌, List, length, Bool, true, false, All}
use Rattle.td_words.specs.declared.headers.Header.{Header}
use Rattle.td_words.specs.declared.names.OpState.{OpState}
use Rattle.td_words.specs.declared.names.OpState.TheVariants as op
use Rattle.bundle_format.specs.Headers.{is_lawful, payload_length}
use Rattle.flat_core.specs.World.{World, ClearHeader, Made}
use Rattle.flat_core.specs.Opening.{Opening}
use Rattle.flat_core.specs.Inside.{AreTimely}
use Rattle.flat_core.specs.Run.{bundles_in}
use Rattle.flat_core.specs.Laws.{IsKept, HoldsInRuns}

-- a header with that tag
abbrev pub tagged : List ℕ → ClearHeader → Header
tagged tag h = record {
  size = h.size;
  version = h.version;
  stream = h.stream;
  kind = h.kind;
  reserved = h.reserved;
  counter = h.counter;
  epoch = h.epoch;
  iv = h.iv;
  session = h.session;
  index = h.index;
  info = h.info;
  gpa = h.gpa;
  total = h.total;
  tag = tag;
}

-- with any tag its header is lawful, and its payload has the length that its kind wants
pub record IsFormed (b : Made) : Type 0 where
  pub lawful : (tag : List ℕ) → length tag ≡ 16 → is_lawful (tagged tag b.header) ≡ true
  pub whole : (tag : List ℕ) → 8 * length b.payload ≡ payload_length (tagged tag b.header)

-- No guest's code has more than 256 operations: so a position in it fits the field of a bundle with a virtual processor.
abbrev pub AreCodesShort : Opening → Type 0
AreCodesShort o = (t index : ℕ) → length (o.codes t index) ≤ 256

abbrev pub EveryBundleIsFormed : Type 0
EveryBundleIsFormed = HoldsInRuns (λ o s. AreCodesShort o → All IsFormed (bundles_in s))

-- Why it is so, world by world

-- a TD that is exported or imported has a session
abbrev pub has_session : OpState → Bool
has_session op.LiveExport = true
has_session op.PausedExport = true
has_session op.PostExport = true
has_session op.MemoryImport = true
has_session op.StateImport = true
has_session op.PostImport = true
has_session _ = false

pub record FormsHold (w : World) : Type 0 where
  pub formed : All IsFormed w.outgoing.bundles
  pub position : (v : ℕ) → w.vps.positions v ≤ 256
  pub session : (t : ℕ) → has_session (w.tds.ops t) ≡ true → 1 ≤ w.tds.sessions t

abbrev pub FormsAreKept : Type 0
FormsAreKept = IsKept (λ o s. AreTimely o s × (AreCodesShort o → FormsHold s.world))
