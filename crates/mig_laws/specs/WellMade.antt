-- The bundles that the source of a migration session makes are well made: what each header says of those before it is so. So a
-- destination that imports each stream's bundles in their order knows by a few numbers which of them it has (TD Migration
-- Architecture, "Migration Bundles" and "Migration Session Control").
use Rattle.std.specs.Prelude.{◌≡◌, ◌≢◌, ℕ, ◌<◌, ◌≤◌, List, ◌∷◌, ◌++◌, length, Bool, true, ◌==◌, ◌&&◌, ◌||◌, All}
use Rattle.std.specs.List.{count_by}
use Rattle.td_words.specs.declared.names.OpState.TheVariants.{PostExport}
use Rattle.td_words.specs.Packing.{is_exported}
use Rattle.flat_core.specs.World.{World, Made}
use Rattle.flat_core.specs.Sessions.{stream_counter}
use Rattle.flat_core.specs.BundleRows.{start_epoch}
use Rattle.flat_core.specs.Run.{bundles_in}
use Rattle.flat_core.specs.Laws.{IsKept, HoldsInRuns, ArePagesKnown}
use Rattle.flat_core.specs.AccessLaw.{IsGuarded}
use Rattle.mig_laws.specs.Ivs.{is_forward, IsExporting}
use Rattle.mig_laws.specs.Source.{has_gpa_page, is_page_at, SourceHolds}

-- the bundles of a session, of types 0 to 5, and those of them that are on one stream
abbrev pub is_of : (session : ℕ) → Made → Bool
is_of s b = is_forward b && b.header.session == s

abbrev pub is_on : (session stream : ℕ) → Made → Bool
is_on s k b = is_of s b && b.header.stream == k

-- a token ends a migration epoch: an epoch token, or the start token
abbrev pub is_token : Made → Bool
is_token b = b.header.kind == 4 || b.header.kind == 5

-- An earlier bundle a of b's session is of no later migration epoch; where b is a token, or has a page that a has too, it is of
-- an earlier one; and where it is the start token, b has pages.
pub record IsBehind (b a : Made) : Type 0 where
  pub epoch : a.header.epoch ≤ b.header.epoch
  pub token : is_token b ≡ true → a.header.epoch < b.header.epoch
  pub page : b.header.kind ≡ 3 → (n : ℕ) → has_gpa_page b.header n ≡ true → is_page_at b.header.session n a ≡ true → a.header.epoch < b.header.epoch
  pub started : a.header.kind ≡ 5 → b.header.kind ≡ 3

-- A bundle is made after these: pages alone are on other streams than the first one; it counts those of its session on its
-- stream, and a token's total is that of all streams.
pub record ComesAfter (before : List Made) (b : Made) : Type 0 where
  pub stream : b.header.kind ≢ 3 → b.header.stream ≡ 0
  pub counter : b.header.counter ≡ count_by (is_on b.header.session b.header.stream) before
  pub total : is_token b ≡ true → b.header.total ≡ count_by (is_of b.header.session) before
  pub behind : All (λ a. is_of b.header.session a ≡ true → IsBehind b a) before

-- each bundle is made after those before it
abbrev pub AreWellMade : List Made → Type 0
AreWellMade bundles = (before after : List Made) (b : Made) → bundles ≡ before ++ b ∷ after → is_forward b ≡ true → ComesAfter before b

abbrev pub EveryListIsWellMade : Type 0
EveryListIsWellMade = HoldsInRuns (λ o s. AreWellMade (bundles_in s))

-- Why it is so, world by world

-- the page of a GPA page is exported; its entry's mark is this migration epoch or a later one, but none that the TD isn't in yet
pub record IsMarked (w : World) (t gpa_page epoch : ℕ) : Type 0 where
  pub exported : is_exported (w.tds.entries t 0 gpa_page).state ≡ true
  pub first : epoch ≤ (w.tds.entries t 0 gpa_page).mark
  pub last : (w.tds.entries t 0 gpa_page).mark ≤ w.tds.mig_epochs t

-- what a TD's words say of a bundle of its session: of no later migration epoch than the TD is in, nor, where it has pages,
-- than the entry of each of them is marked with; and the start token ends the export
pub record AgreesWith (w : World) (t : ℕ) (b : Made) : Type 0 where
  pub epoch : b.header.epoch ≤ w.tds.mig_epochs t
  pub page : b.header.kind ≡ 3 → (n : ℕ) → has_gpa_page b.header n ≡ true → IsMarked w t n b.header.epoch
  pub started : b.header.kind ≡ 5 → w.tds.ops t ≡ PostExport

-- of a TD whose export stands: each stream's counter is the number of its session's bundles there, and before the start token
-- there is a migration epoch left for it
pub record SessionAgrees (w : World) (t : ℕ) : Type 0 where
  pub counter : (k : ℕ) → k < length (w.tds.streams t) → stream_counter w t k ≡ count_by (is_on (w.tds.sessions t) k) w.outgoing.bundles
  pub each : All (λ b. is_of (w.tds.sessions t) b ≡ true → AgreesWith w t b) w.outgoing.bundles
  pub room : w.tds.ops t ≢ PostExport → w.tds.mig_epochs t < start_epoch

pub record WellHolds (w : World) : Type 0 where
  pub made : AreWellMade w.outgoing.bundles
  pub sessions : (t : ℕ) → IsExporting w t → SessionAgrees w t

-- each event keeps it, beside what it keeps of a source
abbrev pub WellIsKept : Type 0
WellIsKept = IsKept (λ o s. ((IsGuarded o s × ArePagesKnown s.world) × SourceHolds s.world) × WellHolds s.world)

abbrev pub EverySessionAgrees : Type 0
EverySessionAgrees = HoldsInRuns (λ o s. (t : ℕ) → IsExporting s.world t → SessionAgrees s.world t)
