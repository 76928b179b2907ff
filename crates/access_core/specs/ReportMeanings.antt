-- The leaf of a guest's report means its row.
use Rattle.std.proofs.Common.{◌≡◌, ℕ, zero, suc, ◌+◌, ◌<◌, true, List, [], ◌∷◌, ◌++◌, slice_index, Some, refl, ap, sym, ◌∙◌, subst, inl, inr, arith}
use Rattle.std.proofs.lemmas.Bool.{eq-eqb}
use Rattle.td_words.specs.declared.names.Mode.TheVariants.{Shared}
use Rattle.td_words.specs.declared.machines.Machine.{Machine}
use Rattle.flat_core.specs.World.{World}
use Rattle.flat_core.specs.Processor.{LockId, OfRtmr, Held}
use Rattle.flat_core.specs.Effects.{pass_operation, tell_words}
use Rattle.flat_core.specs.Row.{Try}
use Rattle.flat_core.specs.Guest.{report_facts}
use Rattle.flat_core.specs.Reports.{facts_of}
use Rattle.flat_core.specs.Lawful.{Lawful}
use Rattle.word_rules.specs.Lines.{in_lines}
use Rattle.word_rules.specs.Rules.{TdcsWord, RtmrWord, Whole, KeepsNothing, reads}
use Rattle.word_rules.specs.Spots.{or_unused, tdcs_classes, is_current, is_empty}
use Rattle.word_rules.specs.Permissions.{MayAt}
use Rattle.word_rules.specs.Cells.{Shows, td_lock_lines, tdcs_lines, lock_word}
use Rattle.lock_words.specs.Grips.{holds}
use Rattle.lock_words.specs.LockWords.{tdcs_of}
use Rattle.leaf_engine.specs.Facts.{GuestFits}
use Rattle.leaf_engine.specs.Trees.{Tree, Load}
use Rattle.leaf_engine.specs.Means.{Instant, Means, Work, work_of, OfOperation, IsAtOperation, hold, grasp_of}
use Rattle.leaf_parts.specs.Words.{page_told}
use Rattle.leaf_parts.proofs.Begun.{TwoControls}
use Rattle.leaf_parts.proofs.Checks.{spot_of, tdr-load, tdcs-load}
use Rattle.leaf_parts.proofs.Told.{page-back, tdcs-spot}
use Rattle.access_core.specs.OperationTrees.{with_position}
use Rattle.access_core.specs.VpShows.{passed-shown}
use Rattle.access_core.specs.GuestWords.{kept-respects, vp-in, vp-writes, position-load, register-load}
use Rattle.access_core.specs.RtmrTrees.{with_words, register_at}
use Rattle.access_core.specs.RtmrShows.{rtmr-line, rtmr-class}
use Rattle.access_core.specs.RtmrMeanings.{running-controls, listed, words-mean}
use Rattle.access_core.specs.ReportTrees.{mrtd_at, rtmrs_at, facts_told, report_end, report_held, report_at, report_tree, ReportMeans}

-- the line of a word of MRTD, and what it is
mrtd-line : (w : World) (locks : LockId → ℕ) (t n : ℕ) → n < 6 → in_lines (td_lock_lines locks t (tdcs_lines w t)) (64 + n) ≡ Some (w.tds.mrtds t n)
mrtd-line w locks t zero few = refl
mrtd-line w locks t (suc zero) few = refl
mrtd-line w locks t (suc (suc zero)) few = refl
mrtd-line w locks t (suc (suc (suc zero))) few = refl
mrtd-line w locks t (suc (suc (suc (suc zero)))) few = refl
mrtd-line w locks t (suc (suc (suc (suc (suc zero))))) few = refl
mrtd-line w locks t (suc (suc (suc (suc (suc (suc n)))))) few = absurd (omega (arith, few))

mrtd-class : (w : World) (t n : ℕ) → n < 6 → or_unused (in_lines (tdcs_classes (is_current w t) (is_empty w t)) (64 + n)) ≡ TdcsWord
mrtd-class w t zero few = refl
mrtd-class w t (suc zero) few = refl
mrtd-class w t (suc (suc zero)) few = refl
mrtd-class w t (suc (suc (suc zero))) few = refl
mrtd-class w t (suc (suc (suc (suc zero)))) few = refl
mrtd-class w t (suc (suc (suc (suc (suc zero))))) few = refl
mrtd-class w t (suc (suc (suc (suc (suc (suc n)))))) few = absurd (omega (arith, few))

module _ (m : Machine) (c : Instant) (t v line : ℕ) (la : Lawful m c.state.world) (sh : Shows m c.memory.words c.memory.slots c.state) (fits : GuestFits c.state.world c.me c.kept t v) (starts : IsAtOperation c.state.world v) where
  abbrev w : World
  w = c.state.world

  abbrev k : Work
  k = work_of (OfOperation t v (report_facts t v line))

  abbrev hs : List Held
  hs = record { lock = OfRtmr t; mode = Shared } ∷ []

  z : TwoControls m w t
  z = running-controls m c t v la fits

  inside : v < m.pages
  inside = vp-in m c t v la sh fits

  held : holds (hs ++ c.kept) (OfRtmr t) ≡ true
  held = rw (eq-eqb t t refl) refl

  mrtd-may : MayAt (hold c hs) (spot_of TdcsWord t z.tdcs) (λ x. reads x Whole)
  mrtd-may = inr (inl (fits.tdr_held, (fits.op_held, tt)))

  rtmr-may : MayAt (hold c hs) (spot_of RtmrWord t z.tdcs) (λ x. reads x Whole)
  rtmr-may = inr (inr (inl (fits.tdr_held, (fits.op_held, (held, tt)))))

  mrtd-load : (n : ℕ) → n < 6 → (f : ℕ → Tree) → Means m c k hs (f (w.tds.mrtds t n)) [] → Means m c k hs (Load Whole (mrtd_at z.tdcs n) f) []
  mrtd-load n few f h =
      tdcs-load m c k hs sh t (64 + n) (w.tds.mrtds t n) fits.alive z (omega (arith, few)) (mrtd-line w (lock_word c.state.lps c.state.lp_count) t n few)
      (rw (mrtd-class w t n few) mrtd-may) f [] h

  rtmr-load : (n : ℕ) → n < 24 → (f : ℕ → Tree) → Means m c k hs (f (w.hidden.rtmrs t n)) [] → Means m c k hs (Load Whole (rtmrs_at z.tdcs n) f) []
  rtmr-load n few f h =
      tdcs-load m c k hs sh t (16 + n) (w.hidden.rtmrs t n) fits.alive z (omega (arith, few)) (rtmr-line w (lock_word c.state.lps c.state.lp_count) t n few)
      (rw (rtmr-class (is_current w t) (is_empty w t) n few) rtmr-may) f [] h

  abbrev w' : World
  w' = tell_words [] (pass_operation v w)

  reported-end : Means m c k hs (report_end v line (w.vps.positions v) (facts_of w t v)) []
  reported-end =
      let all = passed-shown m c.memory.words c.memory.slots c.state sh t v fits.alive.life (record { kind = fits.vp_page.kind; owner = fits.vp_page.owner }) inside starts in (
        record {
          answers = record { reply_is = refl; cached_is = refl; enters_is = refl; notes_are = refl; tells_are = refl; bundles_are = refl };
          fills_allowed = tt;
          respects = kept-respects (grasp_of c hs) w w' refl refl refl refl;
          locks_stay = ((refl, λ y. record { alive = record { kind = y.alive.kind; life = y.alive.life }; has_tdcs = y.has_tdcs }), tt);
          shows = record { word = all.word; hasher = all.hasher };
        },
        (((inside, omega arith), (KeepsNothing, vp-writes m c t v la sh fits hs 4 refl, tt)), tt),
      )

  abbrev by_registers : (mrtd rtmrs : List ℕ) → List ℕ → Tree
  by_registers mrtd rtmrs registers = with_position v (λ at. report_end v line at (facts_told mrtd rtmrs registers))

  abbrev by_rtmrs : (mrtd : List ℕ) → List ℕ → Tree
  by_rtmrs mrtd rtmrs = with_words (register_at v) 0 8 (by_registers mrtd rtmrs)

  abbrev by_mrtd : List ℕ → Tree
  by_mrtd mrtd = with_words (rtmrs_at z.tdcs) 0 24 (by_rtmrs mrtd)

  -- under R
  held-means : Means m c k hs (report_held v line z.tdcs) []
  held-means =
      words-mean m c k hs [] (mrtd_at z.tdcs) (w.tds.mrtds t) 6 mrtd-load 6 0 (omega arith) by_mrtd
      (words-mean m c k hs [] (rtmrs_at z.tdcs) (w.hidden.rtmrs t) 24 rtmr-load 24 0 (omega arith) (by_rtmrs (listed (w.tds.mrtds t) 0 6))
      (words-mean m c k hs [] (register_at v) (w.hidden.registers v) 8 (λ n few f h. register-load m c t v la sh fits hs n few k f [] h) 8 0 (omega arith) (by_registers (listed (w.tds.mrtds t) 0 6) (listed (w.hidden.rtmrs t) 0 24))
      (position-load m c t v la sh fits hs k (λ at. report_end v line at (facts_of w t v)) [] reported-end)))

  at-means : Means m c k [] (report_at t v line z.tdcs) (Try (OfRtmr t) Shared ∷ [])
  at-means = (
    refl,
    refl,
    record {
      in_machine = (z.tdcs_in, omega arith);
      at = rw (z.list) refl;
      stands = record { alive = fits.alive; has_tdcs = rw (z.list) refl };
      allowed = rw (tdcs-spot w t 3 z.tdcs (z.root ∷ []) z.list z.tdcs_page) (inl (fits.tdr_held, tt));
    },
    held-means,
  )

  report-means-at : Means m c k [] (report_tree m t v line) (Try (OfRtmr t) Shared ∷ [])
  report-means-at =
      let first : tdcs_of w t ≡ z.tdcs = ap (λ (cs : List ℕ). slice_index cs 0) z.list in
      let told : page_told m.pages (tdcs_of w t) ≡ z.tdcs = ap (page_told m.pages) first ∙ page-back m.pages z.tdcs z.tdcs_in in
      tdr-load m c k [] sh t 4 (tdcs_of w t) fits.alive.kind (la.pages.tdr t fits.alive.kind) (la.pages.in_machine t (let is = fits.alive.kind in rw is refl)) (omega arith) refl (inl (fits.tdr_held, tt)) (λ word. report_at t v line (page_told m.pages word)) (Try (OfRtmr t) Shared ∷ [])
      (subst (λ (p : ℕ). Means m c k [] (report_at t v line p) (Try (OfRtmr t) Shared ∷ [])) (sym told) at-means)

pub report-means : ReportMeans
report-means p t v line = record { means = λ c at. report-means-at p.machine c t v line at.lawful at.shown at.maker.1.fits at.maker.2 }
