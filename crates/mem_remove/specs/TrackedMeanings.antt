-- What words tell of TLB epochs: which virtual processors in guest entered at the epoch before TD_EPOCH, and whether a block is
-- tracked.
use Rattle.std.proofs.Common.{◌≡◌, ℕ, zero, suc, ◌+◌, ◌-◌, ◌%◌, ◌<◌, ◌≤◌, Bool, true, false, ◌==◌, nat_lt, List, [], ◌∷◌, ◌++◌, Option, Some, None, refl, ap, sym, ◌∙◌, subst, inl, inr, arith}
use Rattle.std.specs.List.{All}
use Rattle.std.proofs.lemmas.Bool.{eq-eqb, eqb-true, eqb-false, ne_eqb, ltb-true}
use Rattle.std.proofs.lemmas.List.Elements.{All-nil, All-cons}
use Rattle.td_words.specs.declared.names.PageKind.{PageKind}
use Rattle.td_words.specs.declared.names.PageKind.TheVariants as kind
use Rattle.td_words.specs.declared.names.OpState.{OpState}
use Rattle.td_words.specs.declared.machines.Machine.{Machine}
use Rattle.td_words.specs.declared.places.TheConstants.{TDCS_EPOCH}
use Rattle.td_words.specs.declared.refusals.Status.TheVariants.{TlbTrackingNotDone}
use Rattle.td_words.specs.declared.replies.Reply.{Reply}
use Rattle.td_words.specs.NameNumber.{kind_number}
use Rattle.td_words.specs.Packing.{pamt_word}
use Rattle.td_words.specs.Place as place
use Rattle.flat_core.specs.World.{World, Pages}
use Rattle.flat_core.specs.Processor.{LockId, OfPage, OfOp, OfEpoch, Held}
use Rattle.flat_core.specs.Locks.{one_if}
use Rattle.flat_core.specs.Row.{Item, Row}
use Rattle.flat_core.specs.Access.{LawfulEpochs}
use Rattle.flat_core.specs.Lawful.{Lawful, IsPageOf, ArePagesOf}
use Rattle.flat_core.specs.Tracking.{tracked, entry_epochs, entered_at, is_tracked, tracked_block, tracked_page, previous_count}
use Rattle.flat_core.proofs.Tests.{by_test}
use Rattle.word_rules.specs.Lines.{in_lines}
use Rattle.word_rules.specs.Rules.{Class, EpochCount, Whole, reads, sees}
use Rattle.word_rules.specs.Permissions.{MayAt}
use Rattle.word_rules.specs.Spots.{or_unused, tdcs_classes, is_current, is_empty}
use Rattle.word_rules.specs.Cells.{Shows, IsAs, td_lock_lines, tdcs_lines, lock_word, entered_of_parity}
use Rattle.lock_words.specs.Grips.{holds}
use Rattle.leaf_engine.specs.Trees.{Tree, Load, has_acted}
use Rattle.leaf_engine.specs.Trees as tree
use Rattle.leaf_engine.specs.Means.{Instant, Work, Means, Loads, work_of, OfCall, hold}
use Rattle.leaf_parts.proofs.Begun.{IsTd}
use Rattle.leaf_parts.proofs.Checks.{spot_of, at-tdcs, tdcs-load}
use Rattle.leaf_parts.proofs.Told.{pamt-shown, tdcs-shown, owner-small}
use Rattle.tlb_epochs.specs.Epochs.{IsNear}
use Rattle.tlb_epochs.proofs.Counted.{far, next_to}
use Rattle.tlb_epochs.proofs.Entries.{counts}
use Rattle.mem_remove.specs.TrackedTrees.{blocked_told, other_parity, previous_tree, tracked_from, block_tree, tracked_tree}

-- BEPOCH, read back
kind-small : (k : PageKind) → kind_number k < 16
kind-small kind.Nda = omega arith
kind-small kind.Reg = omega arith
kind-small kind.Tdr = omega arith
kind-small kind.Tdcx = omega arith
kind-small kind.Tdvpr = omega arith
kind-small kind.Ept = omega arith
kind-small kind.Migsc = omega arith

pub blocked-back : (k : PageKind) (o e : ℕ) → o < 65536 → blocked_told (pamt_word (record { kind = k; owner = o; epoch = e })) ≡ e
blocked-back k o e few = (let small : kind_number k < 16 = kind-small k in omega arith)

-- entry epochs, one virtual processor after the other

by_entry : {A : Type 0} (o : Option ℕ) → (o ≡ None → A) → ((e : ℕ) → o ≡ Some e → A) → A
by_entry None outside inside = outside refl
by_entry (Some e) outside inside = inside e refl

abbrev AreNear : Pages → (ℕ → Option ℕ) → (t epoch : ℕ) → Type 0
AreNear pages f t epoch = (v e : ℕ) → IsPageOf pages t v kind.Tdvpr → f v ≡ Some e → IsNear epoch e

all-near : (pages : Pages) (f : ℕ → Option ℕ) (t epoch : ℕ) → AreNear pages f t epoch → (vs : List ℕ) → ArePagesOf pages t kind.Tdvpr vs → All (IsNear epoch) (entry_epochs f vs)
all-near pages f t epoch near [] its = All-nil (IsNear epoch)
all-near pages f t epoch near (v ∷ vs) its =
    let rest : All (IsNear epoch) (entry_epochs f vs) = all-near pages f t epoch near vs its.1 in
    by_entry (f v) (λ outside. rw outside rest) (λ e inside. rw inside (All-cons (IsNear epoch) e (entry_epochs f vs) (near v e its.0 inside) rest))

-- of two epochs that follow one another each has its parity
parity-tells : (epoch e : ℕ) → 1 ≤ epoch → IsNear epoch e → (e % 2 == other_parity epoch) ≡ (e == epoch - 1)
parity-tells epoch e begun near = by_test (e == epoch - 1)
    (λ y. (let is : e ≡ epoch - 1 = eqb-true e (epoch - 1) y in rw y (eq-eqb (e % 2) (other_parity epoch) (omega (arith, is, begun)))))
    (λ n. (let not : e ≡ epoch - 1 → ⊥ = eqb-false e (epoch - 1) n in
    let same : e ≡ epoch = omega (arith, not, near.0, near.1, begun) in
    rw n (ne_eqb (e % 2) (other_parity epoch) (λ h. omega (arith, h, same)))))

other-count : (pages : Pages) (f : ℕ → Option ℕ) (t epoch : ℕ) → 1 ≤ epoch → AreNear pages f t epoch → (vs : List ℕ) → ArePagesOf pages t kind.Tdvpr vs → entered_of_parity (other_parity epoch) f vs ≡ entered_at f (epoch - 1) vs
other-count pages f t epoch begun near [] its = refl
other-count pages f t epoch begun near (v ∷ vs) its =
    let rest : entered_of_parity (other_parity epoch) f vs ≡ entered_at f (epoch - 1) vs = other-count pages f t epoch begun near vs its.1 in
    by_entry (f v)
    (λ outside. rw outside (ap (λ (z : ℕ). 0 + z) rest))
    (λ e inside. rw (inside, parity-tells epoch e begun (near v e its.0 inside)) (ap (λ (z : ℕ). one_if (e == epoch - 1) + z) rest))

-- the lines of the two counts, and what these words are
count-line : (w : World) (locks : LockId → ℕ) (t b : ℕ) → b < 2 → in_lines (td_lock_lines locks t (tdcs_lines w t)) (6 + b) ≡ Some (entered_of_parity b w.vps.entered (w.tds.vps t))
count-line w locks t zero h = refl
count-line w locks t (suc zero) h = refl
count-line w locks t (suc (suc b)) h = absurd (omega (arith, h))

count-class : (current empty : ℕ → Bool) (b : ℕ) → b < 2 → or_unused (in_lines (tdcs_classes current empty) (6 + b)) ≡ EpochCount (current b) (empty b)
count-class current empty zero h = refl
count-class current empty (suc zero) h = refl
count-class current empty (suc (suc b)) h = absurd (omega (arith, h))

module _ (m : Machine) (c : Instant) (row : Row) (t : ℕ) (hs : List Held) (la : Lawful m c.state.world) (sh : Shows m c.memory.words c.memory.slots c.state) (epochs : LawfulEpochs c.state.world) (ops : List OpState) (y : IsTd m c.state.world t ops) (begun : 1 ≤ c.state.world.tds.epochs t)
    (tdr_held : holds (hs ++ c.kept) (OfPage t) ≡ true) (op_held : holds (hs ++ c.kept) (OfOp t) ≡ true) (epoch_held : holds (hs ++ c.kept) (OfEpoch t) ≡ true) where
  abbrev w : World
  w = c.state.world

  abbrev k : Work
  k = work_of (OfCall row)

  abbrev e : ℕ
  e = c.state.world.tds.epochs t

  abbrev b : ℕ
  b = other_parity (c.state.world.tds.epochs t)

  abbrev count : ℕ
  count = previous_count c.state.world t

  abbrev d : ℕ
  d = y.controls.tdcs

  -- TD_EPOCH
  pub epoch-told-means : (further : ℕ → Tree) (rest : List (Item Reply)) → Means m c k hs (further e) rest → Means m c k hs (Load Whole (place.Word d TDCS_EPOCH) further) rest
  epoch-told-means further rest h = tdcs-load m c k hs sh t 5 e y.alive y.controls (omega arith) refl (inr (inr (inl (tdr_held, (op_held, (epoch_held, tt)))))) further rest h

  -- each that is in guest entered at TD_EPOCH or at the epoch before
  are-near : AreNear w.pages w.vps.entered t e
  are-near v x page inside = epochs.near t v x y.alive.kind page inside

  vps : ArePagesOf w.pages t kind.Tdvpr (w.tds.vps t)
  vps = la.tds.vps t y.alive

  near : All (IsNear e) (entry_epochs w.vps.entered (w.tds.vps t))
  near = all-near w.pages w.vps.entered t e are-near (w.tds.vps t) vps

  -- the count of the epoch before
  parity : b < 2
  parity = omega arith

  counted : entered_of_parity b w.vps.entered (w.tds.vps t) ≡ count
  counted = other-count w.pages w.vps.entered t e begun are-near (w.tds.vps t) vps

  inside : 6 + b < 512
  inside = omega (arith, parity)

  count-told : c.memory.words (place.Word d (6 + b)) ≡ count
  count-told =
      subst (λ (o : Option ℕ). IsAs o (c.memory.words (place.Word d (6 + b)))) (count-line w (lock_word c.state.lps c.state.lp_count) t b parity)
      (tdcs-shown m c.memory.words c.memory.slots c.state sh t (6 + b) d (y.controls.root ∷ []) y.controls.list y.controls.tdcs_page y.alive.life y.controls.tdcs_in inside)
      ∙ counted

  other : (e % 2 == b) ≡ false
  other = ne_eqb (e % 2) b (λ h. omega (arith, h))

  class-is : or_unused (in_lines (tdcs_classes (is_current w t) (is_empty w t)) (6 + b)) ≡ EpochCount false (count == 0)
  class-is = count-class (is_current w t) (is_empty w t) b parity ∙ rw (other, y.configured, counted) refl

  count-loads : (further : ℕ → Tree) → ((count == 0) ≡ false → has_acted (further count) ≡ true) → Loads c k hs Whole (place.Word d (6 + b)) further
  count-loads further acts = by_test (count == 0)
      (λ none. inl (at-tdcs (hold c hs) w t d (6 + b) (y.controls.root ∷ []) (λ z. reads z Whole) y.controls.list y.controls.tdcs_page
      (subst (λ (x : Class). MayAt (hold c hs) (spot_of x t d) (λ z. reads z Whole)) (sym (class-is ∙ ap (λ (z : Bool). EpochCount false z) none)) (inr (inl (tdr_held, (op_held, (epoch_held, tt))))))))
      (λ some. inr (inl (
        at-tdcs (hold c hs) w t d (6 + b) (y.controls.root ∷ []) (λ z. sees z Whole) y.controls.list y.controls.tdcs_page
            (subst (λ (x : Class). MayAt (hold c hs) (spot_of x t d) (λ z. sees z Whole)) (sym class-is) (inl (tdr_held, tt))),
        subst (λ (n : ℕ). has_acted (further n) ≡ true) (sym count-told) (acts some),
      )))

  -- where it isn't 0 its load is the act
  pub previous-means : (further : ℕ → Tree) (rest : List (Item Reply)) → ((count == 0) ≡ false → has_acted (further count) ≡ true) → Means m c k hs (further count) rest → Means m c k hs (previous_tree d e further) rest
  previous-means further rest acts h = ((y.controls.tdcs_in, inside), count-loads further acts, subst (λ (n : ℕ). Means m c k hs (further n) rest) (sym count-told) h)

  -- a block at an epoch
  module _ (blocked : ℕ) (further : Tree) (rest : List (Item Reply)) where
    abbrev is_past : Bool
    is_past = tracked blocked (c.state.world.tds.epochs t) (entry_epochs c.state.world.vps.entered (c.state.world.tds.vps t))

    next-is : (blocked + 1 == e) ≡ true → (count == 0) ≡ is_past
    next-is same = (let is : blocked + 1 ≡ e = eqb-true (blocked + 1) e same in
        next_to blocked e count (omega (arith, is)) (omega (arith, is)) (entry_epochs w.vps.entered (w.tds.vps t)) near (counts.count w t))

    far-is : (blocked + 1 == e) ≡ false → nat_lt blocked e ≡ is_past
    far-is differ = by_test (nat_lt blocked e)
        (λ below. (let less : blocked < e = ltb-true blocked e below in let not : blocked + 1 ≡ e → ⊥ = eqb-false (blocked + 1) e differ in
        below ∙ far blocked e less (omega (arith, less, not)) (entry_epochs w.vps.entered (w.tds.vps t)) near))
        (λ n. rw n refl)

    module _ (h : is_past ≡ true → Means m c k hs further rest) where
      from-means : (x : Bool) → (blocked + 1 == e) ≡ x → Means m c k hs (tracked_from x d blocked e further) (tracked_block w t blocked ∷ rest)
      from-means true same = previous-means (λ n. tree.needs (n == 0) TlbTrackingNotDone further) (tracked_block w t blocked ∷ rest) (λ some. rw some refl) (next-is same, λ f. refl, h)
      from-means false differ = (far-is differ, λ f. refl, h)

      pub block-means : Means m c k hs (block_tree d blocked further) (tracked_block w t blocked ∷ rest)
      block-means = epoch-told-means (λ n. tracked_from (blocked + 1 == n) d blocked n further) (tracked_block w t blocked ∷ rest) (from-means (blocked + 1 == e) refl)

  -- the block of a page that is held
  module _ (limit : m.pages < 65536) (p : ℕ) (in_page : p < m.pages) (page_held : holds (hs ++ c.kept) (OfPage p) ≡ true) (further : Tree) (rest : List (Item Reply)) (h : is_tracked w t p ≡ true → Means m c k hs further rest) where
    abbrev blocked : ℕ
    blocked = c.state.world.pages.blocked p

    pub blocked-is : blocked_told (c.memory.words (place.Pamt p)) ≡ blocked
    blocked-is = ap blocked_told (pamt-shown m c.memory.words c.memory.slots c.state sh p in_page) ∙ blocked-back (w.pages.kinds p) (w.pages.owners p) blocked (owner-small m w p la limit)

    pub tracked-means : Means m c k hs (tracked_tree d p further) (tracked_page w t p ∷ rest)
    tracked-means = (in_page, inl (inl (page_held, tt)), subst (λ (x : ℕ). Means m c k hs (block_tree d x further) (tracked_page w t p ∷ rest)) (sym blocked-is) (block-means blocked further rest h))
