-- The streams of a TD, the room of one of them, and the words of a header mean what rows say, under P of the TDR page and O:
-- words of TDCS by these in any mode, and those of a stream's page under O alone.
use Rattle.std.proofs.Common.{◌≡◌, ℕ, suc, ◌+◌, ◌-◌, ◌%◌, ◌^◌, ◌<◌, ◌≤◌, true, nat_lt, List, [], ◌∷◌, ◌++◌, length, slice_get, append-nil, append_assoc, Option, Some, refl, ap, sym, ◌∙◌, subst, inl, inr, arith}
use Rattle.std.specs.List.{sum_by}
use Rattle.std.proofs.lemmas.List.Sums.{sum_by-cons}
use Rattle.td_words.specs.declared.names.PageKind.TheVariants as kind
use Rattle.td_words.specs.declared.names.Counter.TheVariants.{Mb}
use Rattle.td_words.specs.declared.machines.Machine.{Machine}
use Rattle.td_words.specs.declared.refusals.Status.TheVariants.{CounterLimit}
use Rattle.td_words.specs.declared.replies.Reply.{Reply}
use Rattle.td_words.specs.Place as place
use Rattle.flat_core.specs.World.{World}
use Rattle.flat_core.specs.Processor.{Held, OfPage, OfOp}
use Rattle.flat_core.specs.Row.{Item}
use Rattle.flat_core.specs.Lawful.{Lawful, IsAlive, IsPageOf, ArePagesOf}
use Rattle.flat_core.specs.Sessions.{stream_page, stream_counter, counter_room}
use Rattle.word_rules.specs.Lines.{in_lines}
use Rattle.word_rules.specs.Rules.{TdcsWord, StreamWord, Whole, reads}
use Rattle.word_rules.specs.Spots.{or_unused, tdcs_classes, stream_classes, is_current, is_empty}
use Rattle.word_rules.specs.Permissions.{MayAt, Reads}
use Rattle.word_rules.specs.Cells.{Shows, IsAs, lock_word, td_lock_lines, tdcs_lines, stream_lines}
use Rattle.lock_words.specs.Grips.{holds, holds_alone}
use Rattle.leaf_engine.specs.Trees.{Tree, Load, needs}
use Rattle.leaf_engine.specs.Means.{Instant, Means, Work, hold}
use Rattle.leaf_parts.specs.Words.{page_told}
use Rattle.leaf_parts.proofs.Begun.{TwoControls, page-in}
use Rattle.leaf_parts.proofs.Checks.{spot_of, at-spot}
use Rattle.leaf_parts.proofs.Told.{page-back, tdcs-shown, tdcs-spot}
use Rattle.stream_parts.specs.declared.rooms.Room.{Room}
use Rattle.arrayvec.specs.ArrayVec.{ArrayVec}
use Rattle.stream_parts.specs.Streams.{streams_told, page_tree, pages_from, pages_tree, sum_from, sum_tree}
use Rattle.stream_parts.specs.Rooms.{counter_tree, room_tree, session_tree, mig_epoch_tree}
use Rattle.stream_parts.proofs.StreamWords.{stream-class, stream-spot, streams-back, listed, page-of, stream-said, stream-shown}

-- what is held of a TD: in any mode, and alone
pub record HoldsHead (hs : List Held) (t : ℕ) : Type 0 where
  pub tdr : holds hs (OfPage t) ≡ true
  pub op : holds hs (OfOp t) ≡ true

pub record HoldsAlone (hs : List Held) (t : ℕ) : Type 0 where
  pub tdr : holds hs (OfPage t) ≡ true
  pub op : holds hs (OfOp t) ≡ true
  pub alone : holds_alone hs (OfOp t) ≡ true

module _ (m : Machine) (c : Instant) (work : Work) (hs : List Held) (t : ℕ) (la : Lawful m c.state.world) (sh : Shows m c.memory.words c.memory.slots c.state) (alive : IsAlive c.state.world.pages c.state.world.tds t) (z : TwoControls m c.state.world t) where
  abbrev w : World
  w = c.state.world

  abbrev Mean : Tree → List (Item Reply) → Type 0
  Mean s rest = Means m c work hs s rest

  -- a word of a stream's page is what its line says
  pub stream-load : (p i x : ℕ) → IsPageOf w.pages t p kind.Migsc → i < 512 → in_lines (stream_lines w p) i ≡ Some x → MayAt (hold c hs) (spot_of (or_unused (in_lines stream_classes i)) t p) (λ y. reads y Whole)
      → (further : ℕ → Tree) (rest : List (Item Reply)) → Mean (further x) rest → Mean (Load Whole (place.Word p i) further) rest
  stream-load p i x its few line may further rest end =
      let p_in : p < m.pages = page-in m w t p kind.Migsc la its refl in
      let word : c.memory.words (place.Word p i) ≡ x = subst (λ (o : Option ℕ). IsAs o (c.memory.words (place.Word p i))) line (stream-shown m c.memory.words c.memory.slots c.state sh t alive.life p i its p_in few) in (
        (p_in, few),
        inl (at-spot (hold c hs) w (place.Word p i) (spot_of (or_unused (in_lines stream_classes i)) t p) (λ y. reads y Whole) (stream-spot w t p i its) may),
        subst (λ (n : ℕ). Mean (further n) rest) (sym word) end,
      )

  -- the counter of a stream's page, which has room
  pub counter-means : (k : ℕ) → IsPageOf w.pages t (stream_page w t k) kind.Migsc → MayAt (hold c hs) (spot_of StreamWord t (stream_page w t k)) (λ y. reads y Whole) → (further : Room → Tree) (rest : List (Item Reply))
      → (nat_lt (stream_counter w t k) (2 ^ 32 - 1) ≡ true → Mean (further (record { page = stream_page w t k; counter = stream_counter w t k })) rest) → Mean (counter_tree (stream_page w t k) further) (counter_room w t k ∷ rest)
  counter-means k its may further rest end =
      stream-load (stream_page w t k) 0 (stream_counter w t k) its (omega arith) refl may
      (λ counter. needs (nat_lt counter (2 ^ 32 - 1)) (CounterLimit Mb) (further (record { page = stream_page w t k; counter = counter }))) (counter_room w t k ∷ rest) (refl, λ e. refl, λ e. end e)

  -- in any mode
  module _ (held : HoldsHead (hs ++ c.kept) t) where
    -- words of TDCS stay
    tdcs-reads : (i : ℕ) → or_unused (in_lines (tdcs_classes (is_current w t) (is_empty w t)) i) ≡ TdcsWord → Reads (hold c hs) w (place.Word z.tdcs i) Whole
    tdcs-reads i e = rw (tdcs-spot w t i z.tdcs (z.root ∷ []) z.list z.tdcs_page, e) (inr (inl (held.tdr, (held.op, tt))))

    -- a word of TDCS is what its line says
    pub tdcs-means : (i x : ℕ) → i < 512 → in_lines (td_lock_lines (lock_word c.state.lps c.state.lp_count) t (tdcs_lines w t)) i ≡ Some x → or_unused (in_lines (tdcs_classes (is_current w t) (is_empty w t)) i) ≡ TdcsWord
        → (further : ℕ → Tree) (rest : List (Item Reply)) → Mean (further x) rest → Mean (Load Whole (place.Word z.tdcs i) further) rest
    tdcs-means i x few line class further rest end =
        let word : c.memory.words (place.Word z.tdcs i) ≡ x =
        subst (λ (o : Option ℕ). IsAs o (c.memory.words (place.Word z.tdcs i))) line (tdcs-shown m c.memory.words c.memory.slots c.state sh t i z.tdcs (z.root ∷ []) z.list z.tdcs_page alive.life z.tdcs_in few) in (
          (z.tdcs_in, few),
          inl (tdcs-reads i class),
          subst (λ (n : ℕ). Mean (further n) rest) (sym word) end,
        )

    -- the page of the stream of a number
    pub page-means : (k p : ℕ) → k < 4 → slice_get (w.tds.streams t) k ≡ Some p → IsPageOf w.pages t p kind.Migsc → (further : ℕ → Tree) (rest : List (Item Reply)) → Mean (further p) rest → Mean (page_tree m.pages z.tdcs k further) rest
    page-means k p few there its further rest end =
        let p_in : p < m.pages = page-in m w t p kind.Migsc la its refl in
        let word : c.memory.words (place.Word z.tdcs (49 + k)) ≡ p = stream-said m c.memory.words c.memory.slots c.state sh t alive.life z.tdcs (z.root ∷ []) z.list z.tdcs_page z.tdcs_in k p few there in (
          (z.tdcs_in, omega (arith, few)),
          inl (tdcs-reads (49 + k) (stream-class (is_current w t) (is_empty w t) k few)),
          subst (λ (n : ℕ). Mean (further n) rest) (sym (ap (page_told m.pages) word ∙ page-back m.pages p p_in)) end,
        )

    -- the session, and the migration epoch
    pub session-means : (further : ℕ → Tree) (rest : List (Item Reply)) → Mean (further (w.tds.sessions t)) rest → Mean (session_tree z.tdcs further) rest
    session-means further rest end = (let small : w.tds.sessions t < 2 ^ 16 = la.sessions.session t in let same : w.tds.sessions t ≡ w.tds.sessions t % 2 ^ 16 = omega (arith, small) in
        tdcs-means 11 (w.tds.sessions t) (omega arith) refl refl (λ session. further (session % 2 ^ 16)) rest (subst (λ (n : ℕ). Mean (further n) rest) same end))

    pub mig_epoch-means : (further : ℕ → Tree) (rest : List (Item Reply)) → Mean (further (w.tds.mig_epochs t)) rest → Mean (mig_epoch_tree z.tdcs further) rest
    mig_epoch-means further rest end = (let small : w.tds.mig_epochs t < 2 ^ 32 = la.sessions.mig_epoch t in let same : w.tds.mig_epochs t ≡ w.tds.mig_epochs t % 2 ^ 32 = omega (arith, small) in
        tdcs-means 10 (w.tds.mig_epochs t) (omega arith) refl refl (λ epoch. further (epoch % 2 ^ 32)) rest (subst (λ (n : ℕ). Mean (further n) rest) same end))

  -- alone
  module _ (own : HoldsAlone (hs ++ c.kept) t) where
    abbrev head : HoldsHead (hs ++ c.kept) t
    head = record { tdr = own.tdr; op = own.op }

    -- a word of a stream's page, under O alone
    pub stream-means : (p i x : ℕ) → IsPageOf w.pages t p kind.Migsc → i < 512 → in_lines (stream_lines w p) i ≡ Some x → or_unused (in_lines stream_classes i) ≡ StreamWord
        → (further : ℕ → Tree) (rest : List (Item Reply)) → Mean (further x) rest → Mean (Load Whole (place.Word p i) further) rest
    stream-means p i x its few line class further rest end = stream-load p i x its few line (rw class (inr (inl (own.tdr, (own.alone, tt))))) further rest end

    -- the pages of all
    module _ (further : ArrayVec ℕ → Tree) (rest : List (Item Reply)) where
      from-means : (told left : List ℕ) (number : ℕ) → number + length left ≤ 4 → ArePagesOf w.pages t kind.Migsc left → ((i : ℕ) → slice_get (w.tds.streams t) (number + i) ≡ slice_get left i)
          → Mean (further (record { items = told ++ left })) rest → Mean (pages_from m.pages z.tdcs number (length left) (record { items = told }) further) rest
      from-means told [] number few its there end = subst (λ (ps : List ℕ). Mean (further (record { items = ps })) rest) (append-nil told) end
      from-means told (p ∷ ps) number few its there end =
          let base : number + 0 ≡ number = omega arith in
          page-means head number p (omega arith) (ap (slice_get (w.tds.streams t)) (sym base) ∙ there 0) its.0 (λ page. pages_from m.pages z.tdcs (number + 1) (length ps) (record { items = told ++ page ∷ [] }) further) rest
          (from-means (told ++ p ∷ []) ps (number + 1) (omega arith) its.1
          (λ i. (let next : number + 1 + i ≡ number + suc i = omega arith in ap (slice_get (w.tds.streams t)) next ∙ there (suc i)))
          (subst (λ (qs : List ℕ). Mean (further (record { items = qs })) rest) (sym (append_assoc told (p ∷ []) ps)) end))

      pub pages-means : Mean (further (record { items = w.tds.streams t })) rest → Mean (pages_tree m.pages z.tdcs further) rest
      pages-means end =
          let few : length (w.tds.streams t) ≤ 4 = la.tds.streams_few t in
          tdcs-means head 48 (length (w.tds.streams t)) (omega arith) refl refl (λ count. pages_from m.pages z.tdcs 0 (streams_told count) (record { items = [] }) further) rest
          (subst (λ (n : ℕ). Mean (pages_from m.pages z.tdcs 0 n (record { items = [] }) further) rest) (sym (streams-back (length (w.tds.streams t)) few))
          (from-means [] (w.tds.streams t) 0 (omega (arith, few)) (la.tds.streams t alive) (λ i. (let next : 0 + i ≡ i = omega arith in ap (slice_get (w.tds.streams t)) next)) end))

    -- the sum of a word of each
    module _ (at : ℕ) (said : ℕ → ℕ) (in_page : at < 512) (line : (p : ℕ) → in_lines (stream_lines w p) at ≡ Some (said p)) (class : or_unused (in_lines stream_classes at) ≡ StreamWord) (further : ℕ → Tree) (rest : List (Item Reply)) where
      sum-from-means : (ps : List ℕ) (n : ℕ) → ArePagesOf w.pages t kind.Migsc ps → Mean (further ((n + sum_by said ps) % 2 ^ 64)) rest → Mean (sum_from at ps (n % 2 ^ 64) further) rest
      sum-from-means [] n its end = (let sum : n + 0 ≡ n = omega arith in subst (λ (k : ℕ). Mean (further (k % 2 ^ 64)) rest) sum end)
      sum-from-means (p ∷ ps) n its end =
          let more : (n + said p) % 2 ^ 64 ≡ (n % 2 ^ 64 + said p) % 2 ^ 64 = omega arith in
          let sum : n + sum_by said (p ∷ ps) ≡ n + said p + sum_by said ps = omega (arith, sum_by-cons said p ps) in
          stream-means p at (said p) its.0 in_page (line p) class (λ word. sum_from at ps ((n % 2 ^ 64 + word) % 2 ^ 64) further) rest
          (subst (λ (k : ℕ). Mean (sum_from at ps k further) rest) more
          (sum-from-means ps (n + said p) its.1
          (subst (λ (k : ℕ). Mean (further (k % 2 ^ 64)) rest) sum end)))

      pub sum-means : Mean (further (sum_by said (w.tds.streams t) % 2 ^ 64)) rest → Mean (sum_tree at (w.tds.streams t) further) rest
      sum-means end = (let none : sum_by said (w.tds.streams t) ≡ 0 + sum_by said (w.tds.streams t) = omega arith in
          sum-from-means (w.tds.streams t) 0 (la.tds.streams t alive) (subst (λ (k : ℕ). Mean (further (k % 2 ^ 64)) rest) none end))

    -- the room of one that there is
    module _ (k : ℕ) (small : k < length (w.tds.streams t)) (further : Room → Tree) (rest : List (Item Reply)) where
      pub room-means : (nat_lt (stream_counter w t k) (2 ^ 32 - 1) ≡ true → Mean (further (record { page = stream_page w t k; counter = stream_counter w t k })) rest) → Mean (room_tree m.pages z.tdcs k further) (counter_room w t k ∷ rest)
      room-means end =
          let few : length (w.tds.streams t) ≤ 4 = la.tds.streams_few t in
          let its : IsPageOf w.pages t (stream_page w t k) kind.Migsc = page-of m w t k la alive small in
          page-means head k (stream_page w t k) (omega (arith, few)) (listed w t k small) its (λ page. counter_tree page further) (counter_room w t k ∷ rest)
          (counter-means k its (inr (inl (own.tdr, (own.alone, tt)))) further rest end)
