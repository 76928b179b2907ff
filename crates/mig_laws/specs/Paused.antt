-- What a start token says: its session was paused, and the last bundle of each page has what the page held at the pause (TD
-- Migration Architecture, "Migration Session Control").
use Rattle.std.specs.Prelude.{◌≡◌, ℕ, List, Option, Some, option_map, Bool, true, false, ◌==◌, ◌&&◌}
use Rattle.std.specs.List.{list_any}
use Rattle.td_words.specs.declared.names.OpState.{OpState}
use Rattle.td_words.specs.declared.names.OpState.TheVariants as op
use Rattle.flat_core.specs.World.{World, Image, Made}
use Rattle.flat_core.specs.Sessions.{payload_words}
use Rattle.flat_core.specs.Run.{bundles_in}
use Rattle.flat_core.specs.Laws.{IsKept, HoldsInRuns, ArePagesKnown}
use Rattle.flat_core.specs.AccessLaw.{IsGuarded}
use Rattle.mig_laws.specs.Ivs.{IsExporting}
use Rattle.mig_laws.specs.Source.{last_payload, SourceHolds}

-- a session has a start token
abbrev pub is_start : (session : ℕ) → Made → Bool
is_start s b = b.header.kind == 5 && b.header.session == s

abbrev pub has_start : (session : ℕ) → List Made → Bool
has_start s bundles = list_any (is_start s) bundles

-- the words that a page of an image has
abbrev pub image_words : Image → (gpa_page : ℕ) → Option (List ℕ)
image_words image n = option_map (λ words. payload_words words 512) (image.pages n)

-- EXPORT.PAUSE noted an image under the session, and the last bundle of each page that was sent has the image's words.
pub record IsSentAsPaused (w : World) (session : ℕ) : Type 0 where
  pub image : Image
  pub noted : w.hidden.paused session ≡ Some image
  pub pages : (n : ℕ) (payload : List ℕ) → last_payload session n w.outgoing.bundles ≡ Some payload → image_words image n ≡ Some payload

-- So it is, in every state of every run, of each session with a start token: while its export stands, and once it is over.
abbrev pub StartedAreSentAsPaused : Type 0
StartedAreSentAsPaused = HoldsInRuns (λ o s. (session : ℕ) → has_start session (bundles_in s) ≡ true → IsSentAsPaused s.world session)

-- Why it is so, world by world

-- an export that was paused: its TD runs no more
abbrev pub is_paused : OpState → Bool
is_paused op.PausedExport = true
is_paused op.PostExport = true
is_paused _ = false

-- what a TD's guest knows is what it knew at the pause
pub record IsAsPaused (w : World) (t : ℕ) : Type 0 where
  pub image : Image
  pub noted : w.hidden.paused (w.tds.sessions t) ≡ Some image
  pub pages : (n : ℕ) → image.pages n ≡ w.hidden.memories t n

-- a paused TD is as it was paused; with a start token its export is over; and what was sent by then is as paused
pub record PausesHold (w : World) : Type 0 where
  pub paused : (t : ℕ) → IsExporting w t → is_paused (w.tds.ops t) ≡ true → IsAsPaused w t
  pub started : (t : ℕ) → IsExporting w t → has_start (w.tds.sessions t) w.outgoing.bundles ≡ true → w.tds.ops t ≡ op.PostExport
  pub sent : (session : ℕ) → has_start session w.outgoing.bundles ≡ true → IsSentAsPaused w session

abbrev pub PausesAreKept : Type 0
PausesAreKept = IsKept (λ o s. ((IsGuarded o s × ArePagesKnown s.world) × SourceHolds s.world) × PausesHold s.world)
