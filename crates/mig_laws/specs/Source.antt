-- The source's half of what an import brings: while a TD is exported, the last bundle of each of its pages has what the page
-- holds, unless the page is dirty (TD Migration Architecture, "Private Memory Migration").
use Rattle.std.specs.Prelude.{◌≡◌, ℕ, ◌+◌, ◌-◌, ◌*◌, List, [], ◌∷◌, Option, Some, None, option_map, Bool, true, false, ◌==◌, ◌&&◌, if◌then◌else◌}
use Rattle.td_words.specs.declared.names.Access.TheVariants.{Write}
use Rattle.td_words.specs.declared.names.OpState.TheVariants.{LiveExport}
use Rattle.td_words.specs.declared.names.EntryState.TheVariants.{ExportedBlockedW}
use Rattle.td_words.specs.Packing.{is_exported}
use Rattle.flat_core.specs.World.{World, ClearHeader, Made}
use Rattle.flat_core.specs.Tree.{page_of_gpa}
use Rattle.flat_core.specs.Tracking.{is_tracked}
use Rattle.flat_core.specs.Sessions.{payload_words}
use Rattle.flat_core.specs.Inputs.{is_list, word_given}
use Rattle.flat_core.specs.Exports.{is_dirty}
use Rattle.flat_core.specs.Lawful.{IsAlive}
use Rattle.flat_core.specs.Event.{Reaches, next_event}
use Rattle.flat_core.specs.Laws.{IsKept, HoldsInRuns, ArePagesKnown}
use Rattle.flat_core.specs.AccessLaw.{IsGuarded}
use Rattle.flat_guests.specs.Memory.{is_in_run}
use Rattle.mig_laws.specs.Ivs.{IsExporting, IvsHold, AbortsHold}

-- how many pages a bundle of type 3 has: a list says how many, any other has one
abbrev pub pages_in : ClearHeader → ℕ
pages_in h = if is_list h then h.info else 1

-- whether a GPA page is one of them
abbrev pub has_gpa_page : ClearHeader → (gpa_page : ℕ) → Bool
has_gpa_page h n = is_in_run (page_of_gpa h.gpa) (pages_in h) n

-- a bundle of a session that has the page of a GPA page
abbrev pub is_page_at : (session gpa_page : ℕ) → Made → Bool
is_page_at s n b = b.header.kind == 3 && (b.header.session == s && has_gpa_page b.header n)

-- that page's words: 512 of the payload, which has the pages one after another
abbrev pub page_words : (gpa_page : ℕ) → Made → List ℕ
page_words n b = payload_words (λ i. word_given b.payload (512 * (n - page_of_gpa b.header.gpa) + i)) 512

-- the words that the last of these bundles that passes has of a GPA page
abbrev pub later_of : Option (List ℕ) → Option (List ℕ) → Option (List ℕ)
later_of first None = first
later_of first (Some p) = Some p

abbrev pub last_of : (gpa_page : ℕ) → (Made → Bool) → List Made → Option (List ℕ)
last_of n passes [] = None
last_of n passes (b ∷ bs) = later_of (if passes b then Some (page_words n b) else None) (last_of n passes bs)

-- so the last payload of a session's page: its words in the last bundle that carried it
abbrev pub last_payload : (session gpa_page : ℕ) → List Made → Option (List ℕ)
last_payload s n bundles = last_of n (is_page_at s n) bundles

-- the words that a TD's guest knows to be at a GPA page
abbrev pub known_words : World → (t gpa_page : ℕ) → Option (List ℕ)
known_words w t n = option_map (λ words. payload_words words 512) (w.hidden.memories t n)

-- A page was sent with this payload: it is exported since, and holds the payload where it isn't dirty.
pub record IsSent (w : World) (t n : ℕ) (payload : List ℕ) : Type 0 where
  pub exported : is_exported (w.tds.entries t 0 n).state ≡ true
  pub known : is_dirty (w.tds.entries t 0 n).state ≡ false → known_words w t n ≡ Some payload

abbrev pub ArePagesSent : World → Type 0
ArePagesSent w = (t n : ℕ) (payload : List ℕ) → IsExporting w t → last_payload (w.tds.sessions t) n w.outgoing.bundles ≡ Some payload → IsSent w t n payload

-- In LIVE_EXPORT an exported page that is neither dirty nor writable is blocked for writing, and that is tracked.
abbrev pub AreSentTracked : World → Type 0
AreSentTracked w = (t n : ℕ) → IsAlive w.pages w.tds t → w.tds.ops t ≡ LiveExport → (w.tds.entries t 0 n).state ≡ ExportedBlockedW → is_tracked w t (w.tds.entries t 0 n).page ≡ true

-- what each event keeps of a source, and of the tokens back to one
pub record SourceHolds (w : World) : Type 0 where
  pub ivs : IvsHold w
  pub aborts : AbortsHold w
  pub sent : ArePagesSent w
  pub tracked : AreSentTracked w

abbrev pub SourceIsKept : Type 0
SourceIsKept = IsKept (λ o s. (IsGuarded o s × ArePagesKnown s.world) × SourceHolds s.world)

-- In every run, of each TD whose export stands and each GPA page of which its session has a bundle: the entry is in an exported
-- state, and where it isn't dirty the last such bundle's payload is the 512 words of the page, which its guest knows.
pub record HoldsPayload (w : World) (t n : ℕ) (payload : List ℕ) : Type 0 where
  pub sent : IsSent w t n payload
  pub words : is_dirty (w.tds.entries t 0 n).state ≡ false → payload_words (w.words (w.tds.entries t 0 n).page) 512 ≡ payload

abbrev pub EveryPageHoldsItsPayload : Type 0
EveryPageHoldsItsPayload = HoldsInRuns (λ o s. (t n : ℕ) (payload : List ℕ) → IsExporting s.world t
    → last_payload (s.world.tds.sessions t) n s.world.outgoing.bundles ≡ Some payload → HoldsPayload s.world t n payload)

abbrev pub EverySentIsTracked : Type 0
EverySentIsTracked = HoldsInRuns (λ o s. AreSentTracked s.world)

-- So no store of any guest, through whatever translation, reaches a page in EXPORTED_BLOCKEDW in LIVE_EXPORT.
abbrev pub NoStoreReachesSent : Type 0
NoStoreReachesSent = HoldsInRuns (λ o s. (t n p u v r gpa : ℕ) → IsAlive s.world.pages s.world.tds t → s.world.tds.ops t ≡ LiveExport → (s.world.tds.entries t 0 n).state ≡ ExportedBlockedW
    → next_event o s p ≡ Some (Reaches u v Write r gpa (s.world.tds.entries t 0 n).page) → ⊥)
