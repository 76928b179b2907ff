-- A guest's report as a decision over the words that it is told: MRTD, the RTMRs and the registers, under R.
use Rattle.std.specs.Prelude.{◌≡◌, ℕ, ◌+◌, List, [], ◌∷◌, take, drop, length, Result, Ok, Err}
use Rattle.report_core.specs.declared.facts.Facts.{Facts}
use Rattle.td_words.specs.declared.names.Mode.TheVariants.{Shared}
use Rattle.td_words.specs.declared.machines.Machine.{Machine}
use Rattle.td_words.specs.declared.places.TheConstants.{TDR_TDCS, TDCS_RTMR_LOCK, TDCS_RTMRS, TDCS_MRTD}
use Rattle.td_words.specs.declared.replies.Value.TheVariants as value
use Rattle.td_words.specs.declared.replies.Reply.TheVariants.{Done}
use Rattle.td_words.specs.Place.{WordPlace}
use Rattle.td_words.specs.Place as place
use Rattle.flat_core.specs.Processor.{OfRtmr, ReportNote}
use Rattle.flat_core.specs.Digests.{digest_bytes}
use Rattle.flat_core.specs.Guest.{report_facts}
use Rattle.word_rules.specs.Rules.{Whole}
use Rattle.leaf_engine.specs.declared.needs.Place.{Place}
use Rattle.leaf_engine.specs.declared.plans.Stop.{Stop}
use Rattle.leaf_engine.specs.Decides.{Decides}
use Rattle.leaf_engine.specs.Trees.{Tree, Lock, Load, End, feed}
use Rattle.leaf_engine.specs.Means.{Task, OfOperation, MeansRow}
use Rattle.leaf_parts.specs.Words.{page_told}
use Rattle.access_core.specs.OperationTrees.{with_position, put_next, with_notes}
use Rattle.access_core.specs.RtmrTrees.{with_words, register_at}
use Rattle.access_core.specs.declared.reports.Reported.{Reported}

-- the six words of MRTD in the TDCS page, and the twenty-four of its RTMRs
abbrev pub mrtd_at : (tdcs : ℕ) → ℕ → WordPlace
mrtd_at d k = place.Word d (TDCS_MRTD + k)

abbrev pub rtmrs_at : (tdcs : ℕ) → ℕ → WordPlace
rtmrs_at d k = place.Word d (TDCS_RTMRS + k)

-- what they and the eight registers tell
abbrev pub facts_told : (mrtd rtmrs registers : List ℕ) → Facts
facts_told mrtd rtmrs registers = record {
  mrtd = digest_bytes mrtd;
  rtmr0 = digest_bytes (take 6 rtmrs);
  rtmr1 = digest_bytes (take 6 (drop 6 rtmrs));
  rtmr2 = digest_bytes (take 6 (drop 12 rtmrs));
  rtmr3 = digest_bytes (take 6 (drop 18 rtmrs));
  given = digest_bytes registers;
}

-- the store of the position is the act
abbrev pub report_end : (vp line position : ℕ) → Facts → Tree
report_end v line at f = End (with_notes (Done value.Nothing) (ReportNote line f ∷ []) []) [] (put_next v at ∷ [])

-- under R, which others may have too
abbrev pub report_held : (vp line tdcs : ℕ) → Tree
report_held v line d =
    with_words (mrtd_at d) 0 6 (λ mrtd. with_words (rtmrs_at d) 0 24 (λ rtmrs. with_words (register_at v) 0 8 (λ registers.
    with_position v (λ at. report_end v line at (facts_told mrtd rtmrs registers)))))

abbrev pub report_at : (tdr vp line tdcs : ℕ) → Tree
report_at t v line d = Lock (OfRtmr t) (place.Word d TDCS_RTMR_LOCK) Shared (report_held v line d)

-- report
abbrev pub report_tree : Machine → (tdr vp line : ℕ) → Tree
report_tree m t v line = Load Whole (place.Word t TDR_TDCS) (λ word. report_at t v line (page_told m.pages word))

abbrev pub report_task : Place → (tdr vp line : ℕ) → Task
report_task p t v line = record { place = p; tree = report_tree p.machine t v line; meaning = OfOperation t v (report_facts t v line) }

-- it means its row
abbrev pub ReportMeans : Type 0
ReportMeans = (p : Place) (t v line : ℕ) → MeansRow (report_task p t v line)

-- what it was told, or what comes next
abbrev pub ReportComes : Place → (tdr vp line : ℕ) → (told : List ℕ) → Result Reported Stop → Type 0
ReportComes p t v line told (Ok x) =
    (feed (report_tree p.machine t v line) told ≡ report_end v line x.position (facts_told x.mrtd.now x.rtmrs.now x.registers.now))
    × Decides p.machine.pages (report_tree p.machine t v line) told (Ok (record { reply = Done value.Nothing; changes = put_next v x.position ∷ [] }))
ReportComes p t v line told (Err e) = Decides p.machine.pages (report_tree p.machine t v line) told (Err e)

-- the words of these lengths
pub record AreLong (x : Reported) : Type 0 where
  pub mrtd : length x.mrtd.now ≡ 6
  pub rtmrs : length x.rtmrs.now ≡ 24
  pub registers : length x.registers.now ≡ 8
