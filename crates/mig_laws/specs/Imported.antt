-- What joins the source of a migration session and its destination, on lists of bundles alone: of those that the source made
-- the destination knows how many it has imported on each stream, and no more (TD Migration Architecture, "Migration Session
-- Control" and "Private Memory Migration").
use Rattle.std.specs.Prelude.{◌≡◌, ℕ, ◌+◌, ◌<◌, ◌≤◌, List, ◌∷◌, ◌++◌, length, Option, Some, Bool, true, false, ◌==◌, ◌&&◌, nat_lt, if◌then◌else◌, slice_index_or, slice_set, All}
use Rattle.std.specs.List.{count_by, sum}
use Rattle.flat_core.specs.World.{Made}
use Rattle.mig_laws.specs.Source.{has_gpa_page, is_page_at, page_words, last_of, last_payload}
use Rattle.mig_laws.specs.WellMade.{is_of, is_on, is_token, AreWellMade}

-- where so many bundles of each stream were imported: those of the session whose counters are below these numbers
abbrev pub is_imported : (session : ℕ) (counts : List ℕ) → Made → Bool
is_imported s counts b = is_of s b && nat_lt b.header.counter (slice_index_or counts b.header.stream 0)

-- a page's words in the last of them that has it
abbrev pub last_imported : (session : ℕ) (counts : List ℕ) (gpa_page : ℕ) → List Made → Option (List ℕ)
last_imported s counts n bundles = last_of n (λ b. is_imported s counts b && is_page_at s n b) bundles

-- one more of a stream
abbrev pub one_more : (stream : ℕ) (counts : List ℕ) → List ℕ
one_more k counts = slice_set counts k (slice_index_or counts k 0 + 1)

-- so many of each stream were made, and none that was imported is of a later migration epoch than the destination is in
pub record AreImported (s : ℕ) (counts : List ℕ) (epoch : ℕ) (bundles : List Made) : Type 0 where
  pub within : (k : ℕ) → slice_index_or counts k 0 ≤ count_by (is_on s k) bundles
  pub epochs : All (λ b. is_imported s counts b ≡ true → b.header.epoch ≤ epoch) bundles

-- the stream on which an import counts a bundle: a page's is its own, and that of all others is the first one
abbrev pub counted_on : Made → ℕ
counted_on b = if b.header.kind == 3 then b.header.stream else 0

-- what an import asks of a bundle: it is of the session, and the next one on that stream
pub record IsNext (s : ℕ) (counts : List ℕ) (b : Made) : Type 0 where
  pub of_session : is_of s b ≡ true
  pub stream : counted_on b < length counts
  pub counter : b.header.counter ≡ slice_index_or counts (counted_on b) 0

-- of a token: it begins a later migration epoch, and its total is the number of bundles that were imported
pub record TokenFits (s : ℕ) (counts : List ℕ) (epoch : ℕ) (b : Made) : Type 0 where
  pub next : IsNext s counts b
  pub token : is_token b ≡ true
  pub later : epoch < b.header.epoch
  pub total : b.header.total ≡ sum counts

-- of a page's bundle: it is of the migration epoch that the destination is in
pub record PageFits (s : ℕ) (counts : List ℕ) (epoch : ℕ) (b : Made) : Type 0 where
  pub next : IsNext s counts b
  pub page : b.header.kind ≡ 3
  pub now : b.header.epoch ≡ epoch

-- So it is where nothing was imported yet; and an import in a stream's order keeps it, whichever the order of the streams is.
abbrev pub ImportsBegin : Type 0
ImportsBegin = (s : ℕ) (counts : List ℕ) (epoch : ℕ) (bundles : List Made) → ((k : ℕ) → slice_index_or counts k 0 ≡ 0) → AreImported s counts epoch bundles

abbrev pub ImportsStayInOrder : Type 0
ImportsStayInOrder = (s : ℕ) (counts : List ℕ) (epoch later : ℕ) (before after : List Made) (b : Made) → AreWellMade (before ++ b ∷ after)
    → AreImported s counts epoch (before ++ b ∷ after) → IsNext s counts b → epoch ≤ later → b.header.epoch ≤ later
    → AreImported s (one_more (counted_on b) counts) later (before ++ b ∷ after)

-- all bundles of the session that were made before one were imported, and none from there on: so of each page the last payload
-- imported is the last one made before it
pub record AreAllBefore (s : ℕ) (counts : List ℕ) (before after : List Made) : Type 0 where
  pub imported : All (λ x. is_of s x ≡ true → is_imported s counts x ≡ true) before
  pub none_later : All (λ x. is_imported s counts x ≡ false) after
  pub pages : (n : ℕ) → last_imported s counts n (before ++ after) ≡ last_payload s n before

-- A token that fits brings all that its session has made before it.
abbrev pub TokenBringsAll : Type 0
TokenBringsAll = (s : ℕ) (counts : List ℕ) (epoch : ℕ) (before after : List Made) (b : Made) → AreWellMade (before ++ b ∷ after)
    → AreImported s counts epoch (before ++ b ∷ after) → TokenFits s counts epoch b → AreAllBefore s counts before (b ∷ after)

-- And it fits where exactly those were imported that its session has made before it, all of them on the destination's streams
-- and of migration epochs up to the one that the destination is in.
pub record HasAllBefore (s : ℕ) (counts : List ℕ) (epoch : ℕ) (before : List Made) : Type 0 where
  pub some : 0 < length counts
  pub counter : (k : ℕ) → k < length counts → slice_index_or counts k 0 ≡ count_by (is_on s k) before
  pub each : All (λ x. is_of s x ≡ true → (x.header.stream < length counts) × (x.header.epoch ≤ epoch)) before

abbrev pub TokenFitsThen : Type 0
TokenFitsThen = (s : ℕ) (counts : List ℕ) (epoch : ℕ) (before after : List Made) (b : Made) → AreWellMade (before ++ b ∷ after)
    → HasAllBefore s counts epoch before → is_of s b ≡ true → is_token b ≡ true → epoch < b.header.epoch
    → AreImported s counts epoch (before ++ b ∷ after) × TokenFits s counts epoch b

-- with one more bundle imported: of each of its pages it is the last one imported, in the order in which they were made too, and
-- every other page's last one stays
pub record LatestIsLast (s : ℕ) (counts : List ℕ) (bundles : List Made) (b : Made) : Type 0 where
  pub own : (n : ℕ) → has_gpa_page b.header n ≡ true → last_imported s (one_more (counted_on b) counts) n bundles ≡ Some (page_words n b)
  pub others : (n : ℕ) → has_gpa_page b.header n ≡ false → last_imported s (one_more (counted_on b) counts) n bundles ≡ last_imported s counts n bundles

-- so it is where a page's bundle is imported that fits
abbrev pub ImportsKeepLast : Type 0
ImportsKeepLast = (s : ℕ) (counts : List ℕ) (epoch : ℕ) (before after : List Made) (b : Made) → AreWellMade (before ++ b ∷ after)
    → AreImported s counts epoch (before ++ b ∷ after) → PageFits s counts epoch b → LatestIsLast s counts (before ++ b ∷ after) b
