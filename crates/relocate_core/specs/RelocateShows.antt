-- The words that a relocation leaves show its act: they are those of a removal, and then of another page with the same words
-- that the entry comes to name.
use Rattle.std.proofs.Common.{lit<, ◌≡◌, ◌⊎◌, ℕ, suc, ◌+◌, ◌^◌, ◌<◌, true, false, ◌==◌, ◌&&◌, List, [], ◌++◌, refl, ap, sym, ◌∙◌, subst, inl, inr, arith}
use Rattle.std.proofs.lemmas.Bool.{eq-eqb, eqb-true, and_parts}
use Rattle.td_words.specs.declared.names.PageKind.{PageKind}
use Rattle.td_words.specs.declared.names.PageKind.TheVariants as kind
use Rattle.td_words.specs.declared.machines.Machine.{Machine}
use Rattle.td_words.specs.declared.places.TheConstants.{TDR_CHILDREN}
use Rattle.td_words.specs.Place.{WordPlace, IsIn}
use Rattle.td_words.specs.Place as place
use Rattle.flat_core.specs.World.{World}
use Rattle.flat_core.specs.Processor.{OfPage, Held}
use Rattle.flat_core.specs.Conditions.{is_host, children}
use Rattle.flat_core.specs.Effects.{set_page, unmap_page}
use Rattle.flat_core.specs.Lawful.{Lawful, IsAlive, IsNodeOf, IsPageOf}
use Rattle.flat_core.specs.Tree.{number_at, entry_at}
use Rattle.flat_core.specs.MemRows.{removed_states, unblocked_state, move_page}
use Rattle.flat_core.proofs.Tests.{by_test, host_kind}
use Rattle.flat_core.proofs.Ranges.{IsRemoved, page_removed}
use Rattle.flat_core.proofs.Removals.{unmapped_kept}
use Rattle.sept_walk.specs.SecureEpt.{index_at}
use Rattle.word_rules.specs.Cells.{Shows, IsAs, cell}
use Rattle.lock_words.specs.Grips.{holds_alone}
use Rattle.leaf_engine.specs.Changes.{Memory, Copy, put_page, changed, changed_all}
use Rattle.leaf_engine.specs.Means.{Instant}
use Rattle.leaf_parts.specs.Words.{raised}
use Rattle.leaf_parts.proofs.Aside.{apart, turned}
use Rattle.leaf_parts.proofs.Begun.{TwoControls}
use Rattle.leaf_parts.proofs.Owned.{owned-given, owned-taken, raised-is}
use Rattle.leaf_parts.proofs.Told.{tdr-shown}
use Rattle.sept_parts.specs.declared.mappings.Mapping.{Mapping}
use Rattle.sept_parts.specs.MapTrees.{map_changes}
use Rattle.sept_parts.proofs.Filled.{page-set, set-lawful}
use Rattle.sept_parts.proofs.Maps.{MayMap, mapped, private-filled, map-shown}
use Rattle.mem_remove.specs.RemoveTrees.{remove_changes}
use Rattle.mem_remove.specs.RemoveShows.{removed-shown}
use Rattle.mem_remove.specs.NamedMeanings.{IsNamed, HoldsNamed}
use Rattle.relocate_core.specs.RelocateTrees.{relocate_changes}

module _ (m : Machine) (c : Instant) (t gpa page : ℕ) (in_tdr : t < m.pages) (in_page : page < m.pages) (la : Lawful m c.state.world) (sh : Shows m c.memory.words c.memory.slots c.state) (small : gpa < 2 ^ 47)
    (x : IsNamed m c.state.world t gpa 0 removed_states) (host : is_host c.state.world page ≡ true) (other : (page == (entry_at c.state.world t 0 gpa).page) ≡ false) where
  abbrev w : World
  w = c.state.world

  abbrev old : ℕ
  old = (entry_at c.state.world t 0 gpa).page

  abbrev at : ℕ
  at = x.page

  abbrev index : ℕ
  index = index_at 0 gpa

  abbrev mem : Memory
  mem = c.memory

  nda : w.pages.kinds page ≡ kind.Nda
  nda = host_kind (w.pages.kinds page) host

  removed : IsRemoved (entry_at w t 0 gpa).state
  removed = page_removed (entry_at w t 0 gpa).state x.state

  -- neither page is another one of the TD's
  off-old : (q : ℕ) (k : PageKind) → w.pages.kinds q ≡ k → (k ≡ kind.Reg → ⊥) → (q == old) ≡ false
  off-old q k is differ = apart w.pages.kinds q old k kind.Reg is x.node.page.kind differ

  off-new : (q : ℕ) (k : PageKind) → w.pages.kinds q ≡ k → (k ≡ kind.Nda → ⊥) → (q == page) ≡ false
  off-new q k is differ = apart w.pages.kinds q page k kind.Nda is nda differ

  t-old : (t == old) ≡ false
  t-old = turned old t x.apart

  t-page : (t == page) ≡ false
  t-page = off-new t kind.Tdr x.td.alive.kind (λ e. cc)

  table-of : (level : ℕ) → level ≡ 0 → ((level ≡ 3) × (at ≡ x.td.controls.root)) ⊎ ((level < 3) × IsNodeOf w.pages t at kind.Ept (suc level) (number_at (suc level) gpa)) → IsNodeOf w.pages t at kind.Ept 1 (number_at 1 gpa)
  table-of level is (inl e) = absurd (omega (arith, is, e.0))
  table-of level is (inr e) = subst (λ (l : ℕ). IsNodeOf w.pages t at kind.Ept (suc l) (number_at (suc l) gpa)) is e.1

  table : IsNodeOf w.pages t at kind.Ept 1 (number_at 1 gpa)
  table = table-of 0 refl x.has.node

  at-old : (at == old) ≡ false
  at-old = off-old at kind.Ept table.page.kind (λ e. cc)

  at-page : (at == page) ≡ false
  at-page = off-new at kind.Ept table.page.kind (λ e. cc)

  t-at : (t == at) ≡ false
  t-at = apart w.pages.kinds t at kind.Tdr kind.Ept x.td.alive.kind table.page.kind (λ e. cc)

  -- the old page has left the map, and the new one has its words
  abbrev w1 : World
  w1 = unmap_page t 0 (number_at 0 gpa) c.state.world

  abbrev full : World
  full = set_page page (c.state.world.words (entry_at c.state.world t 0 gpa).page) (unmap_page t 0 (number_at 0 gpa) c.state.world)

  abbrev gone : Memory
  gone = changed_all (remove_changes t x.page (index_at 0 gpa) (entry_at c.state.world t 0 gpa).page (children c.state.world t)) c.memory

  abbrev filled : Memory
  filled = record { words = put_page (changed_all (remove_changes t x.page (index_at 0 gpa) (entry_at c.state.world t 0 gpa).page (children c.state.world t)) c.memory).words page (c.state.world.words (entry_at c.state.world t 0 gpa).page); slots = c.memory.slots; hand = c.memory.hand }

  host-then : is_host w1 page ≡ true
  host-then = rw (other, nda) refl

  filled-shown : Shows m filled.words filled.slots (record (c.state) { world = full })
  filled-shown =
      page-set m gone (record (c.state) { world = w1 }) page (w.words old) (w.words old) (λ i b. refl)
      (removed-shown m c.state c.memory t gpa 0 old at sh la x.td.alive x.td.controls small x.has (rw x.node.page.kind refl) x.node.page.owner x.apart w.hidden.memories) host-then

  page-still : (q : ℕ) (k : PageKind) → (k ≡ kind.Reg → ⊥) → IsPageOf w.pages t q k → IsPageOf full.pages t q k
  page-still q k differ h = let n = off-old q k h.kind differ in record { kind = rw n h.kind; owner = rw n h.owner }

  alive-still : IsAlive full.pages full.tds t
  alive-still = record { kind = rw t-old x.td.alive.kind; life = x.td.alive.life }

  controls-still : TwoControls m full t
  controls-still = let y = x.td.controls in record {
    tdcs = y.tdcs;
    root = y.root;
    list = y.list;
    tdcs_page = page-still y.tdcs kind.Tdcx (λ e. cc) y.tdcs_page;
    root_page = page-still y.root kind.Tdcx (λ e. cc) y.root_page;
    differ = y.differ;
    tdcs_in = y.tdcs_in;
    root_in = y.root_in;
  }

  -- the entry comes to name it
  abbrev now : Instant
  now = record c {
    state = record (c.state) { world = set_page page (c.state.world.words (entry_at c.state.world t 0 gpa).page) (unmap_page t 0 (number_at 0 gpa) c.state.world) };
    memory = record { words = put_page (changed_all (remove_changes t x.page (index_at 0 gpa) (entry_at c.state.world t 0 gpa).page (children c.state.world t)) c.memory).words page (c.state.world.words (entry_at c.state.world t 0 gpa).page); slots = c.memory.slots; hand = c.memory.hand };
  }

  abbrev mapping : Mapping
  mapping = record { tdr = t; gpa = gpa; level = 0; page = page; kind = kind.Reg; state = unblocked_state (entry_at c.state.world t 0 gpa).state }

  module _ (hs : List Held) (locks : HoldsNamed (hs ++ c.kept) t (entry_at c.state.world t 0 gpa).page) (alone : holds_alone (hs ++ c.kept) (OfPage page) ≡ true) where
    may-map : MayMap m now hs mapping at
    unfolding controls-still
    may-map = record {
      lawful = set-lawful m w1 page (w.words old) (unmapped_kept m w t 0 (number_at 0 gpa) la x.td.alive removed.used removed.unmarked (λ j n e. cc));
      shown = filled-shown;
      small = small;
      tdr_in = in_tdr;
      page_in = in_page;
      alive = alive-still;
      controls = controls-still;
      entry = record {
        in_machine = x.has.in_machine;
        node = inr (lit< tt, record { page = page-still at kind.Ept (λ e. cc) table.page; level_is = rw at-old table.level_is; number_is = rw at-old table.number_is });
      };
      locks = locks.tree;
      tree_alone = locks.tree_alone;
      page_alone = alone;
      host = host-then;
      owned = refl;
    }

    abbrev last : Memory
    last = changed_all (map_changes m.pages mapping at (children full t)) filled

    last-shown : Shows m last.words last.slots (record (c.state) { world = move_page t (number_at 0 gpa) page w })
    last-shown = map-shown m now hs mapping at may-map full.words [] (private-filled m now mapping full.words [] refl in_page host-then filled-shown)

    -- The leaf's own changes leave just these words.
    abbrev after : Memory
    after = changed_all (relocate_changes t at index (entry_at w t 0 gpa).state old page) (changed (Copy old page) mem)

    -- the TD has as many pages as before
    same-count : raised m.pages (children full t) ≡ mem.words (place.Word t TDR_CHILDREN)
    same-count =
        let then : World = mapped mapping full.words full in
        let size : w.size ≡ m.pages = la.size in
        let owned : is_host w old ≡ false = rw x.node.page.kind refl in
        let small-old : old < w.size = subst (λ (n : ℕ). old < n) (sym size) x.in_machine in
        let small-new : page < w.size = subst (λ (n : ℕ). page < n) (sym size) in_page in
        let fewer : children w1 t + 1 ≡ children w t = owned-given w.pages w1.pages old (λ q n. rw n refl) (λ q n. rw n refl) t w.size small-old (rw (eq-eqb old old refl) refl) x.apart owned x.node.page.owner in
        let more : children then t ≡ children w1 t + 1 = owned-taken w1.pages then.pages page (λ q n. rw n refl) (λ q n. rw n refl) t w.size small-new host-then (turned t page t-page) (rw (eq-eqb page page refl) refl) (rw (eq-eqb page page refl) refl) in
        let up : raised w.size (children w1 t) ≡ children then t = raised-is w1.pages then.pages page (λ q n. rw n refl) (λ q n. rw n refl) t w.size more in
        let told : mem.words (place.Word t TDR_CHILDREN) ≡ children w t = tdr-shown m mem.words mem.slots c.state sh t 2 x.td.alive.kind x.td.own in_tdr (omega arith) in
        ap (λ (n : ℕ). raised n (children w1 t)) (sym size) ∙ (up ∙ (more ∙ (fewer ∙ sym told)))

    -- and the words that the page had are those that are copied
    said : (i : ℕ) → i < 512 → w.words old i ≡ mem.words (place.Word old i)
    said i b = sym (rw x.node.page.kind at (sh.word (place.Word old i) (x.in_machine, b)))

    same-pamt : (r : ℕ) → last.words (place.Pamt r) ≡ after.words (place.Pamt r)
    same-pamt r = by_test (r == page)
        (λ y. let n : (r == old) ≡ false = subst (λ (q : ℕ). (q == old) ≡ false) (sym (eqb-true r page y)) other in rw (y, n) refl)
        (λ n. by_test (r == old) (λ y. rw (n, y) refl) (λ z. rw (n, z) refl))

    -- off the TDR's child count: the entry, the new page, the old one, and all others
    same-off : (r i : ℕ) → i < 512 → (r == t && i == 2) ≡ false → last.words (place.Word r i) ≡ after.words (place.Word r i)
    same-off r i b k = by_test (r == at && i == index)
        (λ y. let n : (r == old) ≡ false = subst (λ (q : ℕ). (q == old) ≡ false) (sym (eqb-true r at (and_parts (r == at) (i == index) y).0)) at-old in rw (k, y, n) refl)
        (λ e. by_test (r == page)
        (λ y. let n : (r == old) ≡ false = subst (λ (q : ℕ). (q == old) ≡ false) (sym (eqb-true r page y)) other in rw (k, e, y, n) (said i b))
        (λ n. by_test (r == old) (λ y. rw (k, e, n, y) refl) (λ z. rw (k, e, n, z) refl)))

    same-words : (q : WordPlace) → IsIn m q → last.words q ≡ after.words q
    same-words (place.Lock r) b = refl
    same-words (place.Key k) b = refl
    same-words (place.Pamt r) b = same-pamt r
    same-words (place.Word r i) b = by_test (r == t && i == 2)
        (λ y. let both = and_parts (r == t) (i == 2) y in
        subst (λ (q : ℕ). last.words (place.Word q i) ≡ after.words (place.Word q i)) (sym (eqb-true r t both.0))
        (subst (λ (j : ℕ). last.words (place.Word t j) ≡ after.words (place.Word t j)) (sym (eqb-true i 2 both.1))
        (rw (eq-eqb t t refl, t-old, t-at, t-page) same-count)))
        (λ n. same-off r i b.1 n)

    pub relocated-shown : Shows m after.words after.slots (record (c.state) { world = move_page t (number_at 0 gpa) page w })
    relocated-shown = record {
      word = λ q b. subst (λ (v : ℕ). IsAs (cell (record (c.state) { world = move_page t (number_at 0 gpa) page w }) q) v) (same-words q b) (last-shown.word q b);
      hasher = last-shown.hasher;
    }
