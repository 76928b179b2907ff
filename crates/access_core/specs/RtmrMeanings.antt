-- The leaf that extends an RTMR means its row.
use Rattle.std.proofs.Common.{◌≡◌, ℕ, zero, suc, ◌+◌, ◌*◌, ◌<◌, ◌≤◌, true, ◌==◌, List, [], ◌∷◌, ◌++◌, length, slice_index, refl, ap, sym, ◌∙◌, subst, inl, inr, arith}
use Rattle.std.proofs.lemmas.Bool.{eq-eqb}
use Rattle.td_words.specs.declared.names.OpState.{OpState}
use Rattle.td_words.specs.declared.names.OpState.TheVariants as op
use Rattle.td_words.specs.declared.names.Mode.TheVariants.{Exclusive}
use Rattle.td_words.specs.declared.machines.Machine.{Machine}
use Rattle.td_words.specs.declared.replies.Reply.{Reply}
use Rattle.td_words.specs.Place.{WordPlace}
use Rattle.flat_core.specs.World.{World}
use Rattle.flat_core.specs.Processor.{OfRtmr, Held}
use Rattle.flat_core.specs.Digests.{six_words}
use Rattle.flat_core.specs.Effects.{set_rtmr, pass_operation, tell_words}
use Rattle.flat_core.specs.Row.{Item, Try}
use Rattle.flat_core.specs.Guest.{extend_rtmr, extended_rtmr}
use Rattle.flat_core.specs.Lawful.{Lawful}
use Rattle.flat_core.proofs.Tests.{by_test}
use Rattle.word_rules.specs.Rules.{Whole, KeepsNothing, RtmrWord, reads, writes, owes}
use Rattle.word_rules.specs.Spots.{runs_in, is_current, is_empty}
use Rattle.word_rules.specs.Permissions.{MayAt, Writes, Owes}
use Rattle.word_rules.specs.Cells.{Shows, lock_word}
use Rattle.lock_words.specs.Grips.{holds, holds_alone}
use Rattle.lock_words.specs.LockWords.{tdcs_of}
use Rattle.leaf_engine.specs.Facts.{GuestFits}
use Rattle.leaf_engine.specs.Trees.{Tree, Load}
use Rattle.leaf_engine.specs.Means.{Instant, Means, Work, work_of, OfOperation, IsAtOperation, hold, grasp_of}
use Rattle.leaf_parts.specs.Words.{page_told}
use Rattle.leaf_parts.proofs.Begun.{TwoControls, two-controls}
use Rattle.leaf_parts.proofs.Checks.{spot_of, at-tdcs, tdr-load, tdcs-load}
use Rattle.leaf_parts.proofs.Told.{page-back, tdcs-spot}
use Rattle.access_core.specs.OperationTrees.{with_position}
use Rattle.access_core.specs.VpShows.{passed-shown}
use Rattle.access_core.specs.GuestWords.{kept-respects, vp-in, vp-owes, position-load, register-load}
use Rattle.access_core.specs.RtmrTrees.{with_words, rtmr_at, register_at, extension, extended, extend_held, extend_at, rtmr_tree, RtmrMeans}
use Rattle.access_core.specs.RtmrShows.{rtmr-line, rtmr-class, extended-shown}

-- a TD that runs has its TDCX pages
running-old : (s : OpState) → s ≡ op.Uninitialized → runs_in s ≡ true → ⊥
running-old s e r = (let no : runs_in op.Uninitialized ≡ true = subst (λ (x : OpState). runs_in x ≡ true) e r in cc)

pub running-controls : (m : Machine) (c : Instant) (t v : ℕ) → Lawful m c.state.world → GuestFits c.state.world c.me c.kept t v → TwoControls m c.state.world t
running-controls m c t v la fits =
    let two : (length (c.state.world.tds.controls t) == 2) ≡ true = by_test (length (c.state.world.tds.controls t) == 2) (λ y. y) (λ n. absurd (running-old (c.state.world.tds.ops t) (la.beginnings.is_new t fits.alive n).op fits.running)) in
    two-controls m c.state.world t la fits.alive two

-- words are loaded one after another, where each of them may be
abbrev pub listed : (ℕ → ℕ) → (from left : ℕ) → List ℕ
listed said n zero = []
listed said n (suc left) = said n ∷ listed said (n + 1) left

pub words-mean : (m : Machine) (c : Instant) (k : Work) (hs : List Held) (rest : List (Item Reply)) (at : ℕ → WordPlace) (said : ℕ → ℕ) (count : ℕ) → ((n : ℕ) → n < count → (f : ℕ → Tree) → Means m c k hs (f (said n)) rest → Means m c k hs (Load Whole (at n) f) rest)
    → (left n : ℕ) → n + left ≤ count → (further : List ℕ → Tree) → Means m c k hs (further (listed said n left)) rest → Means m c k hs (with_words at n left further) rest
words-mean m c k hs rest at said count one zero n few further h = h
words-mean m c k hs rest at said count one (suc left) n few further h =
    one n (omega (arith, few)) (λ x. with_words at (n + 1) left (λ xs. further (x ∷ xs))) (words-mean m c k hs rest at said count one left (n + 1) (omega (arith, few)) (λ xs. further (said n ∷ xs)) h)

module _ (m : Machine) (c : Instant) (t v line i : ℕ) (few : i < 4) (la : Lawful m c.state.world) (sh : Shows m c.memory.words c.memory.slots c.state) (fits : GuestFits c.state.world c.me c.kept t v) (starts : IsAtOperation c.state.world v) where
  abbrev w : World
  w = c.state.world

  abbrev k : Work
  k = work_of (OfOperation t v (extend_rtmr t v line i))

  abbrev hs : List Held
  hs = record { lock = OfRtmr t; mode = Exclusive } ∷ []

  z : TwoControls m w t
  z = running-controls m c t v la fits

  inside : v < m.pages
  inside = vp-in m c t v la sh fits

  held : holds (hs ++ c.kept) (OfRtmr t) ≡ true
  held = rw (eq-eqb t t refl) refl

  alone : holds_alone (hs ++ c.kept) (OfRtmr t) ≡ true
  alone = rw (eq-eqb t t refl) refl

  may_load : MayAt (hold c hs) (spot_of RtmrWord t z.tdcs) (λ x. reads x Whole)
  may_load = inr (inr (inl (fits.tdr_held, (fits.op_held, (held, tt)))))

  may_store : MayAt (grasp_of c hs) (spot_of RtmrWord t z.tdcs) (λ x. writes x KeepsNothing)
  may_store = inr (inr (inl (fits.tdr_held, (fits.op_held, (alone, tt)))))

  may_owe : MayAt (hold c hs) (spot_of RtmrWord t z.tdcs) (λ x. owes x KeepsNothing)
  may_owe = inr (inr (inl (fits.tdr_held, (fits.op_held, (alone, tt)))))

  -- a word of the RTMR is loaded, and stored
  rtmr-load : (n : ℕ) → n < 6 → (f : ℕ → Tree) → Means m c k hs (f (w.hidden.rtmrs t (6 * i + n))) [] → Means m c k hs (Load Whole (rtmr_at z.tdcs i n) f) []
  rtmr-load n small f h =
      tdcs-load m c k hs sh t (16 + (6 * i + n)) (w.hidden.rtmrs t (6 * i + n)) fits.alive z (omega (arith, few, small)) (rtmr-line w (lock_word c.state.lps c.state.lp_count) t (6 * i + n) (omega (arith, few, small)))
      (rw (rtmr-class (is_current w t) (is_empty w t) (6 * i + n) (omega (arith, few, small))) may_load) f [] h

  rtmr-writes : (n : ℕ) → n < 6 → Writes (grasp_of c hs) w (rtmr_at z.tdcs i n) KeepsNothing
  rtmr-writes n small = at-tdcs (grasp_of c hs) w t z.tdcs (16 + (6 * i + n)) (z.root ∷ []) (λ x. writes x KeepsNothing) z.list z.tdcs_page
      (rw (rtmr-class (is_current w t) (is_empty w t) (6 * i + n) (omega (arith, few, small))) may_store)

  abbrev w' : World
  w' = tell_words [] (pass_operation v (set_rtmr t i (extended_rtmr w t v i) w))

  rtmr-owes : (n : ℕ) → n < 6 → Owes (hold c hs) w' (rtmr_at z.tdcs i n) KeepsNothing
  rtmr-owes n small = at-tdcs (hold c hs) w' t z.tdcs (16 + (6 * i + n)) (z.root ∷ []) (λ x. owes x KeepsNothing) z.list (record { kind = z.tdcs_page.kind; owner = z.tdcs_page.owner })
      (rw (rtmr-class (is_current w' t) (is_empty w' t) (6 * i + n) (omega (arith, few, small))) may_owe)

  rtmr-in : (n : ℕ) → n < 6 → 16 + (6 * i + n) < 512
  rtmr-in n small = omega (arith, few, small)

  extended-end : Means m c k hs (extended v line z.tdcs i (w.vps.positions v) (extended_rtmr w t v i)) []
  extended-end =
      let one = extended-shown m c.memory.words c.memory.slots c.state sh t fits.alive z i few (extended_rtmr w t v i) in
      let all = passed-shown m _ c.memory.slots (record c.state { world = set_rtmr t i (extended_rtmr w t v i) w }) one t v fits.alive.life (record { kind = fits.vp_page.kind; owner = fits.vp_page.owner }) inside starts in (
        record {
          answers = record { reply_is = refl; cached_is = refl; enters_is = refl; notes_are = refl; tells_are = refl; bundles_are = refl };
          fills_allowed = tt;
          respects = kept-respects (grasp_of c hs) w w' refl refl refl refl;
          locks_stay = ((refl, λ y. record { alive = record { kind = y.alive.kind; life = y.alive.life }; has_tdcs = y.has_tdcs }), tt);
          shows = record { word = all.word; hasher = all.hasher };
        },
        (
          ((z.tdcs_in, rtmr-in 0 (omega arith)), (KeepsNothing, rtmr-writes 0 (omega arith), tt)),
          (
            ((z.tdcs_in, rtmr-in 1 (omega arith)), (KeepsNothing, rtmr-owes 1 (omega arith), tt)),
            (
              ((z.tdcs_in, rtmr-in 2 (omega arith)), (KeepsNothing, rtmr-owes 2 (omega arith), tt)),
              (
                ((z.tdcs_in, rtmr-in 3 (omega arith)), (KeepsNothing, rtmr-owes 3 (omega arith), tt)),
                (
                  ((z.tdcs_in, rtmr-in 4 (omega arith)), (KeepsNothing, rtmr-owes 4 (omega arith), tt)),
                  (
                    ((z.tdcs_in, rtmr-in 5 (omega arith)), (KeepsNothing, rtmr-owes 5 (omega arith), tt)),
                    (((inside, omega arith), (KeepsNothing, vp-owes m c t v la sh fits hs w' 4 (record { kind = fits.vp_page.kind; owner = fits.vp_page.owner }) refl, tt)), tt),
                  ),
                ),
              ),
            ),
          ),
        ),
      )

  -- under R alone
  held-means : Means m c k hs (extend_held v line i z.tdcs) []
  held-means =
      words-mean m c k hs [] (rtmr_at z.tdcs i) (λ n. w.hidden.rtmrs t (6 * i + n)) 6 rtmr-load 6 0 (omega arith) (λ old. with_words (register_at v) 0 6 (λ registers. with_position v (λ at. extended v line z.tdcs i at (extension old registers))))
      (words-mean m c k hs [] (register_at v) (w.hidden.registers v) 6 (λ n small f h. register-load m c t v la sh fits hs n (omega (arith, small)) k f [] h) 6 0 (omega arith)
      (λ registers. with_position v (λ at. extended v line z.tdcs i at (extension (six_words (λ n. w.hidden.rtmrs t (6 * i + n))) registers)))
      (position-load m c t v la sh fits hs k (λ at. extended v line z.tdcs i at (extension (six_words (λ n. w.hidden.rtmrs t (6 * i + n))) (six_words (w.hidden.registers v)))) [] extended-end))

  at-means : Means m c k [] (extend_at t v line i z.tdcs) (Try (OfRtmr t) Exclusive ∷ [])
  at-means = (
    refl,
    refl,
    record {
      in_machine = (z.tdcs_in, omega arith);
      at = rw (z.list) refl;
      stands = record { alive = fits.alive; has_tdcs = rw (z.list) refl };
      allowed = rw (tdcs-spot w t 3 z.tdcs (z.root ∷ []) z.list z.tdcs_page) (inl (fits.tdr_held, tt));
    },
    held-means,
  )

  rtmr-at : Means m c k [] (rtmr_tree m t v line i) (Try (OfRtmr t) Exclusive ∷ [])
  rtmr-at =
      let first : tdcs_of w t ≡ z.tdcs = ap (λ (cs : List ℕ). slice_index cs 0) z.list in
      let told : page_told m.pages (tdcs_of w t) ≡ z.tdcs = ap (page_told m.pages) first ∙ page-back m.pages z.tdcs z.tdcs_in in
      tdr-load m c k [] sh t 4 (tdcs_of w t) fits.alive.kind (la.pages.tdr t fits.alive.kind) (la.pages.in_machine t (let is = fits.alive.kind in rw is refl)) (omega arith) refl (inl (fits.tdr_held, tt)) (λ word. extend_at t v line i (page_told m.pages word)) (Try (OfRtmr t) Exclusive ∷ [])
      (subst (λ (p : ℕ). Means m c k [] (extend_at t v line i p) (Try (OfRtmr t) Exclusive ∷ [])) (sym told) at-means)

pub rtmr-means : RtmrMeans
rtmr-means p t v line i few = record { means = λ c at. rtmr-at p.machine c t v line i few at.lawful at.shown at.maker.1.fits at.maker.2 }
