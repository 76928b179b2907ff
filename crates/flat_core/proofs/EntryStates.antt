-- An entry gets another state for the page that it names: what every world keeps. And a page that is blocked.
use Rattle.std.proofs.Common.{◌≡◌, refl, sym, ◌∙◌, subst, ap, ℕ, zero, suc, ◌+◌, ◌%◌, ◌^◌, Bool, true, false, if◌then◌else◌, ◌==◌, ◌&&◌}
use Rattle.std.specs.Prelude.{nat_lt}
use Rattle.std.specs.List.{sum_by}
use Rattle.std.proofs.lemmas.Bool.{eq-eqb, eqb-true, eqb-false, and_parts}
use Rattle.td_words.specs.declared.names.PageKind.{PageKind}
use Rattle.td_words.specs.declared.names.PageKind.TheVariants as kind
use Rattle.td_words.specs.declared.names.EntryState.{EntryState}
use Rattle.td_words.specs.declared.names.EntryState.TheVariants as entry
use Rattle.td_words.specs.declared.machines.Machine.{Machine}
use Rattle.td_words.specs.NameNumber.{entry_number}
use Rattle.td_words.specs.Packing.{Entry, is_lawful_entry, is_exported}
use Rattle.flat_core.specs.World.{World, Pages, Tds, Streams}
use Rattle.flat_core.specs.Locks.{one_if}
use Rattle.flat_core.specs.Conditions.{same_kind, is_host_in}
use Rattle.flat_core.specs.Exports.{is_dirty, is_page_where, entries_where}
use Rattle.flat_core.specs.Effects.{set_entry, set_state, block_page}
use Rattle.flat_core.specs.Lawful.{IsAlive, IsPageOf, IsNodeOf, LawfulTree, LawfulCounts, LawfulStreams, Lawful, is_free, is_node}
use Rattle.flat_core.proofs.Tests.{by_test, same_self}
use Rattle.flat_core.proofs.Pages.{controls_as, pages_as}
use Rattle.flat_core.proofs.Exports.{IsOfExported, IsCounted, counts_of, counted_still, counts_kept, sum_moved}
use Rattle.flat_core.proofs.Parts.{new_kept, sessions_kept, streams_kept}

-- what is at an entry's place after another entry was put somewhere: that one, or what stood there
pub entry_set : (w : World) (t level number : ℕ) (new : Entry) (P : Entry → Type 0) (x j n : ℕ) → (x ≡ t → j ≡ level → n ≡ number → P new) → ((x ≡ t → j ≡ level → n ≡ number → ⊥) → P (w.tds.entries x j n))
    → P ((set_entry t level number new w).tds.entries x j n)
entry_set w t level number new P x j n here there = by_test (x == t)
    (λ y. by_test (j == level)
    (λ u. by_test (n == number)
    (λ v. rw (y, u, v) (here (eqb-true x t y) (eqb-true j level u) (eqb-true n number v)))
    (λ v. rw (y, u, v) (moved (eqb-true x t y) (λ a b c. eqb-false n number v c))))
    (λ u. rw (y, u) (moved (eqb-true x t y) (λ a b c. eqb-false j level u b))))
    (λ y. rw y (there (λ a b c. eqb-false x t y a)))
  where
    moved : x ≡ t → (x ≡ t → j ≡ level → n ≡ number → ⊥) → P (w.tds.entries t j n)
    moved e apart = subst (λ (z : ℕ). P (w.tds.entries z j n)) e (there apart)

-- the TDs where an entry is another one, with these counts
abbrev pub with_entry : World → (t level number : ℕ) → Entry → (dirtied unrestored : ℕ → ℕ) → Tds
with_entry w t level number new dirtied unrestored = record ((set_entry t level number new w).tds) { dirtied = dirtied; unrestored = unrestored }

-- an entry becomes another one of its level, for the page that it names; the counts of its TD may change with it
module _ (m : Machine) (w : World) (t level number : ℕ) (new : Entry) (dirtied unrestored : ℕ → ℕ) (l : Lawful m w)
    (used : is_free (w.tds.entries t level number).state ≡ false) (still_used : is_free new.state ≡ false) (same_level : is_node new.state ≡ is_node (w.tds.entries t level number).state)
    (same_name : new.page ≡ (w.tds.entries t level number).page) (fits : is_lawful_entry (w.tds.entries t level number) ≡ true → is_lawful_entry new ≡ true)
    (others : (x : ℕ) → (x == t) ≡ false → (dirtied x ≡ w.tds.dirtied x) × (unrestored x ≡ w.tds.unrestored x)) where
  abbrev after : Tds
  after = with_entry w t level number new dirtied unrestored

  back : (x : ℕ) → IsAlive w.pages after x → IsAlive w.pages w.tds x
  back x a = record { kind = a.kind; life = a.life }

  forth : (x : ℕ) → IsAlive w.pages w.tds x → IsAlive w.pages after x
  forth x a = record { kind = a.kind; life = a.life }

  at_place : (P : Entry → Type 0) (x j n : ℕ) → (x ≡ t → j ≡ level → n ≡ number → P new) → P (w.tds.entries x j n) → P (after.entries x j n)
  at_place P x j n here there = entry_set w t level number new P x j n here (λ apart. there)

  abbrev IsUsed : Entry → Type 0
  IsUsed e = is_free e.state ≡ false

  -- what stood there was used as well
  used_before : (x j n : ℕ) → is_free (after.entries x j n).state ≡ false → is_free (w.tds.entries x j n).state ≡ false
  used_before x j n = at_place (λ (e : Entry). is_free e.state ≡ false → is_free (w.tds.entries x j n).state ≡ false) x j n (λ a b c h. rw (a, b, c) used) (λ h. h)

  still : (x j n : ℕ) → is_free (w.tds.entries x j n).state ≡ false → is_free (after.entries x j n).state ≡ false
  still x j n h = at_place IsUsed x j n (λ a b c. still_used) h

  -- each entry names the page that it named
  same_page : (x j n : ℕ) → (after.entries x j n).page ≡ (w.tds.entries x j n).page
  same_page x j n = at_place (λ (e : Entry). e.page ≡ (w.tds.entries x j n).page) x j n (λ a b c. rw (a, b, c) same_name) refl

  after_tree : LawfulTree m.pages w.pages after
  after_tree = record {
    entry = λ few x j n. at_place (λ (e : Entry). is_lawful_entry e ≡ true) x j n (λ a b c. fits (l.tree.entry few t level number)) (l.tree.entry few x j n);
    upper = λ x j n a h. (let u = l.tree.upper x j n (back x a) (used_before x (suc j) n h) in
        (at_place (λ (e : Entry). is_node e.state ≡ true) x (suc j) n (λ e f g. same_level ∙ (rw (e, f, g) at u.0)) u.0, subst (λ (p : ℕ). IsNodeOf w.pages x p kind.Ept (suc j) n) (sym (same_page x (suc j) n)) u.1));
    lowest = λ x n a h. (let u = l.tree.lowest x n (back x a) (used_before x 0 n h) in
        (at_place (λ (e : Entry). is_node e.state ≡ false) x 0 n (λ e f g. same_level ∙ (rw (e, f, g) at u.0)) u.0, subst (λ (p : ℕ). IsNodeOf w.pages x p kind.Reg 0 n) (sym (same_page x 0 n)) u.1));
    below = λ x j n few a h. still x (suc j) _ (l.tree.below x j n few (back x a) (used_before x j n h));
    in_range = λ x j n h. l.tree.in_range x j n (used_before x j n h);
    named = λ p k a. (let u = l.tree.named p k (back (w.pages.owners p) a) in (still _ _ _ u.0, same_page _ _ _ ∙ u.1, u.2));
  }

  -- with the streams that count it
  pub counted_entry_kept : (streams : Streams) → LawfulStreams w.pages after streams → LawfulCounts m.pages w.pages after streams → Lawful m (record w { tds = after; streams = streams })
  counted_entry_kept streams counters counts = record {
    size = l.size;
    pages = l.pages;
    tds = record {
      controls = λ x a. l.tds.controls x (back x a);
      vps = λ x a. l.tds.vps x (back x a);
      vps_few = l.tds.vps_few;
      vps_differ = l.tds.vps_differ;
      vps_expected = l.tds.vps_expected;
      streams = λ x a. l.tds.streams x (back x a);
      streams_few = l.tds.streams_few;
      streams_differ = l.tds.streams_differ;
      epoch = l.tds.epoch;
      epoch_begun = l.tds.epoch_begun;
    };
    lists = record {
      control = λ q e a. l.lists.control q e (back (w.pages.owners q) a);
      vp = λ q e a. l.lists.vp q e (back (w.pages.owners q) a);
      stream = λ q e a. l.lists.stream q e (back (w.pages.owners q) a);
      index = λ x i v a. l.lists.index x i v (back x a);
    };
    tree = after_tree;
    keys = record {
      in_range = λ x a. l.keys.in_range x (back x a);
      owner = λ x a. l.keys.owner x (back x a);
      owned = λ h x e. (let o = l.keys.owned h x e in (forth x o.0, o.1));
      flushed = λ x a. l.keys.flushed x (back x a);
    };
    beginnings = record {
      is_new = λ x a n. (let is_new = l.beginnings.is_new x (back x a) n in by_test (x == t)
          (λ y. absurd (let no : true ≡ false = sym (ap (λ (e : Entry). is_free e.state) (is_new.entries level number)) ∙ (ap (λ (z : ℕ). is_free (w.tds.entries z level number).state) (eqb-true x t y) ∙ used) in cc))
          (λ y. new_kept w.tds after w.hidden.rtmrs w.hidden.rtmrs x (let same = others x y in rw (y, same.0, same.1) refl) is_new));
    };
    counts = counts;
    streams = counters;
    sessions = sessions_kept w.tds after w.key_table w.key_table refl (λ x h. h) l.sessions;
  }

  pub entry_kept : LawfulCounts m.pages w.pages after w.streams → Lawful m (record w { tds = after })
  entry_kept counts = counted_entry_kept w.streams (streams_kept w.pages w.pages w.tds after w.streams back (λ x e. e) refl l.streams) counts

-- a lawful entry's page with a state that isn't exported
pub restated : (s : EntryState) (e : Entry) → is_lawful_entry e ≡ true → is_free s ≡ false → is_exported s ≡ false → is_lawful_entry (record { state = s; page = e.page; mark = 0 }) ≡ true
restated s e lawful used unmarked = by s used unmarked
  where
    fits : nat_lt e.page 1024 ≡ true
    fits = (and_parts (nat_lt e.page 1024) _ lawful).0

    by : (s : EntryState) → is_free s ≡ false → is_exported s ≡ false → is_lawful_entry (record { state = s; page = e.page; mark = 0 }) ≡ true
    by entry.Free h k = cc
    by entry.ExportedBlockedW h k = cc
    by entry.ExportedDirty h k = cc
    by entry.ExportedDirtyBlockedW h k = cc
    by _ h k = rw fits refl

-- and with a state that is exported where its own is, with its mark
used_number : (s : EntryState) → is_free s ≡ false → (entry_number s == entry_number entry.Free) ≡ false
used_number entry.Free h = cc
used_number _ h = refl

pub remarked : (s : EntryState) (e : Entry) → is_free s ≡ false → is_exported s ≡ is_exported e.state → is_lawful_entry e ≡ true → is_lawful_entry (record { state = s; page = e.page; mark = e.mark }) ≡ true
remarked s e used same lawful =
    let page = and_parts (nat_lt e.page 1024) _ lawful in
    let mark = and_parts (nat_lt e.mark (2 ^ 32)) _ page.1 in
    let parts = and_parts (if entry_number e.state == entry_number entry.Free then e.page == 0 else true) _ mark.1 in
    rw (page.0, mark.0, used_number s used, same) parts.1

-- neither state is exported: no count changes
module _ (m : Machine) (w : World) (t level number : ℕ) (s : EntryState) (l : Lawful m w)
    (used : is_free (w.tds.entries t level number).state ≡ false) (unmarked : is_exported (w.tds.entries t level number).state ≡ false)
    (still_used : is_free s ≡ false) (same_level : is_node s ≡ is_node (w.tds.entries t level number).state) (still_unmarked : is_exported s ≡ false) where
  abbrev unexported : Entry
  unexported = record { state = s; page = (w.tds.entries t level number).page; mark = 0 }

  abbrev then_tds : Tds
  then_tds = with_entry w t level number unexported w.tds.dirtied w.tds.unrestored

  same_where : (f : EntryState → Bool) → IsOfExported f → (x n : ℕ) → f (then_tds.entries x 0 n).state ≡ f (w.tds.entries x 0 n).state
  same_where f of x n = entry_set w t level number unexported (λ (e : Entry). f e.state ≡ f (w.tds.entries x 0 n).state) x 0 n (λ a b c. of s still_unmarked ∙ sym (rw (a, b, c) (of _ unmarked))) (λ apart. refl)

  same_counts : LawfulCounts m.pages w.pages then_tds w.streams
  same_counts = counts_kept m.pages w.pages w.pages w.tds then_tds w.streams (λ x a. record { kind = a.kind; life = a.life }) (λ x. refl)
      (λ x a f of p. ap (λ (b : Bool). same_kind (w.pages.kinds p) kind.Reg && (w.pages.owners p == x && b)) (same_where f of x (w.pages.numbers p))) l.counts

  pub state_kept : Lawful m (set_state t level number s w)
  state_kept = entry_kept m w t level number unexported w.tds.dirtied w.tds.unrestored l used still_used same_level refl
      (λ lawful. restated s (w.tds.entries t level number) lawful still_used still_unmarked) (λ x n. (refl, refl)) same_counts

-- a private page of a TD that is alive is named by an entry of level 0
reg_kind : (k : PageKind) → same_kind k kind.Reg ≡ true → k ≡ kind.Reg
reg_kind kind.Reg h = refl
reg_kind _ h = cc

private_named : (m : Machine) (w : World) → Lawful m w → (q j : ℕ) → w.pages.levels q ≡ j → w.pages.kinds q ≡ kind.Reg → IsAlive w.pages w.tds (w.pages.owners q) → (w.tds.entries (w.pages.owners q) 0 (w.pages.numbers q)).page ≡ q
private_named m w l q zero low k a = let u = l.tree.named q (rw k refl) a in rw low at u.1
private_named m w l q (suc j) low k a = absurd (
    let u = l.tree.named q (rw k refl) a in
    let still : is_free (w.tds.entries (w.pages.owners q) (suc j) (w.pages.numbers q)).state ≡ false = rw low at u.0 in
    let its : (w.tds.entries (w.pages.owners q) (suc j) (w.pages.numbers q)).page ≡ q = rw low at u.1 in
    let upper = l.tree.upper (w.pages.owners q) j (w.pages.numbers q) a still in
    let no : kind.Ept ≡ kind.Reg = sym upper.1.page.kind ∙ (ap w.pages.kinds its ∙ k) in cc)

-- an entry of level 0 of a TD that is alive becomes another one for its page: as many entries of the TD are in some state
-- as before, but for this one
module _ (m : Machine) (w : World) (t number : ℕ) (new : Entry) (dirtied unrestored : ℕ → ℕ) (l : Lawful m w) (alive : IsAlive w.pages w.tds t) (used : is_free (w.tds.entries t 0 number).state ≡ false) where
  abbrev old : Entry
  old = w.tds.entries t 0 number

  abbrev tds_after : Tds
  tds_after = with_entry w t 0 number new dirtied unrestored

  node : IsNodeOf w.pages t old.page kind.Reg 0 number
  node = (l.tree.lowest t number alive used).1

  was_where : (f : EntryState → Bool) → is_page_where f w.pages t (w.tds.entries t 0) old.page ≡ f old.state
  was_where f = rw (node.page.kind, node.page.owner, node.number_is, same_self t) refl

  is_where : (f : EntryState → Bool) → is_page_where f w.pages t (tds_after.entries t 0) old.page ≡ f new.state
  is_where f = rw (node.page.kind, node.page.owner, node.number_is, same_self t, same_self number) refl

  -- another page of the TD has another number
  other_number : (q : ℕ) → (q == old.page) ≡ false → w.pages.kinds q ≡ kind.Reg → w.pages.owners q ≡ t → (w.pages.numbers q == number) ≡ false
  other_number q n k o = by_test (w.pages.numbers q == number)
      (λ y. absurd (let its = private_named m w l q (w.pages.levels q) refl k (subst (λ (z : ℕ). IsAlive w.pages w.tds z) (sym o) alive) in
      let at : old.page ≡ q = subst (λ (z : ℕ). (w.tds.entries t 0 z).page ≡ q) (eqb-true _ number y) (subst (λ (z : ℕ). (w.tds.entries z 0 (w.pages.numbers q)).page ≡ q) o its) in
      let no : true ≡ false = sym (eq-eqb q old.page (sym at)) ∙ n in cc))
      (λ y. y)

  elsewhere : (f : EntryState → Bool) (q : ℕ) → (q == old.page) ≡ false → is_page_where f w.pages t (tds_after.entries t 0) q ≡ is_page_where f w.pages t (w.tds.entries t 0) q
  elsewhere f q n = by_test (same_kind (w.pages.kinds q) kind.Reg)
      (λ y. by_test (w.pages.owners q == t)
      (λ z. let apart = other_number q n (reg_kind _ y) (eqb-true _ t z) in rw (y, z, same_self t, apart) refl)
      (λ z. rw (y, z) refl))
      (λ y. rw y refl)

  pub moved : (f : EntryState → Bool) → entries_where f m.pages w.pages tds_after t + one_if (f old.state) ≡ entries_where f m.pages w.pages w.tds t + one_if (f new.state)
  moved f =
      let one = sum_moved (λ p. one_if (is_page_where f w.pages t (tds_after.entries t 0) p)) (λ p. one_if (is_page_where f w.pages t (w.tds.entries t 0) p)) old.page
      (λ q n. ap one_if (elsewhere f q n)) m.pages (l.pages.in_machine old.page (ap (λ (k : PageKind). same_kind k kind.Nda) node.page.kind)) in
      ap (λ (b : Bool). entries_where f m.pages w.pages tds_after t + one_if b) (sym (was_where f)) ∙ (one ∙ ap (λ (b : Bool). entries_where f m.pages w.pages w.tds t + one_if b) (is_where f))

  abbrev pub OthersStay : Type 0
  OthersStay = (x : ℕ) → (x == t) ≡ false → (dirtied x ≡ w.tds.dirtied x) × (unrestored x ≡ w.tds.unrestored x)

  pub others_counted : OthersStay → (x : ℕ) → (x == t) ≡ false → IsAlive w.pages tds_after x → IsCounted m.pages w.pages tds_after w.streams x
  others_counted others x n a =
      let same = others x n in
      let before : IsAlive w.pages w.tds x = record { kind = a.kind; life = a.life } in
      counted_still m.pages w.pages w.pages w.tds tds_after w.streams x (rw (same.0, same.1) refl) (λ f of p. rw n refl) (l.counts.dirtied x before, l.counts.unrestored x before)

  pub counts_moved : OthersStay
      → ((a b s : ℕ) → a + one_if (is_dirty old.state) ≡ b + one_if (is_dirty new.state) → b + s ≡ w.tds.dirtied t → a + s ≡ dirtied t)
      → ((a b s : ℕ) → a + one_if (is_exported old.state) ≡ b + one_if (is_exported new.state) → b ≡ (w.tds.unrestored t + s) % 2 ^ 64 → a ≡ (unrestored t + s) % 2 ^ 64)
      → LawfulCounts m.pages w.pages tds_after w.streams
  counts_moved others dirty exported = counts_of m.pages w.pages tds_after w.streams (λ x a. by_test (x == t)
      (λ y. subst (λ (z : ℕ). IsCounted m.pages w.pages tds_after w.streams z) (sym (eqb-true x t y)) here)
      (λ n. others_counted others x n a))
    where
      here : IsCounted m.pages w.pages tds_after w.streams t
      here = (dirty _ _ (sum_by w.streams.cleaned (w.tds.streams t)) (moved is_dirty) (l.counts.dirtied t alive), exported _ _ (sum_by w.streams.first_exports (w.tds.streams t)) (moved is_exported) (l.counts.unrestored t alive))

-- a page of a TD gets another BEPOCH
module _ (m : Machine) (w : World) (t p : ℕ) (l : Lawful m w) (owned : is_host_in w.pages p ≡ false) where
  abbrev blocked : Pages
  blocked = (block_page t p w).pages

  was_alive : (x : ℕ) → IsAlive blocked w.tds x → IsAlive w.pages w.tds x
  was_alive x a = record { kind = a.kind; life = a.life }

  is_alive : (x : ℕ) → IsAlive w.pages w.tds x → IsAlive blocked w.tds x
  is_alive x a = record { kind = a.kind; life = a.life }

  page_still : (x q : ℕ) (k : PageKind) → IsPageOf w.pages x q k → IsPageOf blocked x q k
  page_still x q k h = record { kind = h.kind; owner = h.owner }

  node_still : (x q : ℕ) (k : PageKind) (j n : ℕ) → IsNodeOf w.pages x q k j n → IsNodeOf blocked x q k j n
  node_still x q k j n h = record { page = page_still x q k h.page; level_is = h.level_is; number_is = h.number_is }

  pub block_kept : Lawful m (block_page t p w)
  block_kept = record {
    size = l.size;
    pages = record {
      tdr = l.pages.tdr;
      owner = l.pages.owner;
      in_machine = l.pages.in_machine;
      host = λ q h. (
        (l.pages.host q h).0,
        by_test (q == p)
            (λ y. absurd (let no : true ≡ false = sym h ∙ (ap (is_host_in w.pages) (eqb-true q p y) ∙ owned) in cc))
            (λ n. rw n (l.pages.host q h).1),
      );
      blocked = λ q. by_test (q == p) (λ y. rw y (l.tds.epoch t)) (λ n. rw n (l.pages.blocked q));
    };
    tds = record {
      controls = λ x a. controls_as w.pages blocked x (λ q. page_still x q kind.Tdcx) (w.tds.controls x) (l.tds.controls x (was_alive x a));
      vps = λ x a. pages_as w.pages blocked x kind.Tdvpr (λ q. page_still x q kind.Tdvpr) (w.tds.vps x) (l.tds.vps x (was_alive x a));
      vps_few = l.tds.vps_few;
      vps_differ = l.tds.vps_differ;
      vps_expected = l.tds.vps_expected;
      streams = λ x a. pages_as w.pages blocked x kind.Migsc (λ q. page_still x q kind.Migsc) (w.tds.streams x) (l.tds.streams x (was_alive x a));
      streams_few = l.tds.streams_few;
      streams_differ = l.tds.streams_differ;
      epoch = l.tds.epoch;
      epoch_begun = l.tds.epoch_begun;
    };
    lists = record {
      control = λ q e a. l.lists.control q e (was_alive (w.pages.owners q) a);
      vp = λ q e a. l.lists.vp q e (was_alive (w.pages.owners q) a);
      stream = λ q e a. l.lists.stream q e (was_alive (w.pages.owners q) a);
      index = λ x i v a. l.lists.index x i v (was_alive x a);
    };
    tree = record {
      entry = l.tree.entry;
      upper = λ x j n a h. (let u = l.tree.upper x j n (was_alive x a) h in (u.0, node_still x _ kind.Ept (suc j) n u.1));
      lowest = λ x n a h. (let u = l.tree.lowest x n (was_alive x a) h in (u.0, node_still x _ kind.Reg 0 n u.1));
      below = λ x j n few a. l.tree.below x j n few (was_alive x a);
      in_range = l.tree.in_range;
      named = λ q k a. l.tree.named q k (was_alive (w.pages.owners q) a);
    };
    keys = record {
      in_range = λ x a. l.keys.in_range x (was_alive x a);
      owner = λ x a. l.keys.owner x (was_alive x a);
      owned = λ h x e. (let o = l.keys.owned h x e in (is_alive x o.0, o.1));
      flushed = λ x a. l.keys.flushed x (was_alive x a);
    };
    beginnings = record { is_new = λ x a n. l.beginnings.is_new x (was_alive x a) n };
    counts = counts_kept m.pages w.pages blocked w.tds w.tds w.streams was_alive (λ x. refl) (λ x a f of q. refl) l.counts;
    streams = streams_kept w.pages blocked w.tds w.tds w.streams was_alive (λ x e. e) refl l.streams;
    sessions = l.sessions;
  }
