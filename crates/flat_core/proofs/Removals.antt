-- The page that an entry of a TD names is given back, and the entry is FREE: what every world keeps.
use Rattle.std.proofs.Common.{lit<, ◌≡◌, ◌≢◌, refl, sym, ◌∙◌, subst, ap, ℕ, zero, suc, ◌+◌, ◌-◌, ◌*◌, ◌/◌, ◌%◌, ◌<◌, ◌≤◌, List, Bool, true, false, not, ◌==◌, ◌&&◌, arith}
use Rattle.std.specs.List.{list_any}
use Rattle.std.proofs.lemmas.Bool.{eqb-true, and_left, and_right}
use Rattle.td_words.specs.declared.names.PageKind.{PageKind}
use Rattle.td_words.specs.declared.names.PageKind.TheVariants as kind
use Rattle.td_words.specs.declared.names.EntryState.{EntryState}
use Rattle.td_words.specs.declared.names.EntryState.TheVariants as entry
use Rattle.td_words.specs.declared.machines.Machine.{Machine}
use Rattle.td_words.specs.Packing.{Entry, is_lawful_entry, is_exported}
use Rattle.flat_core.specs.World.{World, Pages, Tds, free_entry}
use Rattle.flat_core.specs.Conditions.{same_kind}
use Rattle.flat_core.specs.Tree.{number_at, same_state, first_used, is_used_below, none_used}
use Rattle.flat_core.specs.Effects.{take_node, set_entry, unmap_page}
use Rattle.flat_core.specs.Exports.{is_page_where}
use Rattle.flat_core.specs.Lawful.{IsAlive, IsPageOf, IsNodeOf, IsListed, LawfulTree, Lawful, is_free, is_node, is_named_kind}
use Rattle.flat_core.proofs.Tests.{by_test}
use Rattle.flat_core.proofs.Pages.{controls_as, pages_as}
use Rattle.flat_core.proofs.Exports.{IsOfExported, counts_kept}
use Rattle.flat_core.proofs.EntryStates.{entry_set}
use Rattle.flat_core.proofs.Maps.{kind_named, named_kind, node_named}
use Rattle.flat_core.proofs.Parts.{new_kept, sessions_kept, streams_kept}

-- where none of these is found to be used, none is
pub all_unused : (used : ℕ → Bool) (i n : ℕ) → none_used (first_used used i n) ≡ true → (k : ℕ) → i ≤ k → k < i + n → used k ≡ false
all_unused used i zero h k low high = absurd (omega (arith, low, high))
all_unused used i (suc n) h k low high = by_test (used i)
    (λ y. absurd (let no : false ≡ true = rw y at h in cc))
    (λ y. by_test (k == i)
    (λ z. rw (eqb-true k i z) y)
    (λ z. let apart = Rattle.std.proofs.lemmas.Bool.eqb-false k i z in all_unused used (suc i) n (rw y at h) k (omega (arith, low, apart)) (omega (arith, high))))

pub free_state : (s : EntryState) → not (same_state s entry.Free) ≡ false → is_free s ≡ true
free_state entry.Free h = refl
free_state _ h = cc

-- so of the entries below one of a level
pub empty_at : (w : World) (t gpa level : ℕ) → none_used (first_used (is_used_below w t gpa level) 0 512) ≡ true → (j n : ℕ) → suc j ≡ level → n / 512 ≡ number_at level gpa → is_free (w.tds.entries t j n).state ≡ true
empty_at w t gpa level h j n e f =
    let unused : is_used_below w t gpa level (n % 512) ≡ false = all_unused (is_used_below w t gpa level) 0 512 h (n % 512) (omega arith) (omega arith) in
    let at : 512 * number_at level gpa + n % 512 ≡ n = omega (arith, f) in
    let low : level - 1 ≡ j = omega (arith, e) in
    free_state _ (subst (λ (z : ℕ). not (same_state (w.tds.entries t j z).state entry.Free) ≡ false) at (subst (λ (z : ℕ). not (same_state (w.tds.entries t z (512 * number_at level gpa + n % 512)).state entry.Free) ≡ false) low unused))

module _ (m : Machine) (w : World) (t level number : ℕ) (l : Lawful m w) (alive : IsAlive w.pages w.tds t) (used : is_free (w.tds.entries t level number).state ≡ false)
    (unmarked : is_exported (w.tds.entries t level number).state ≡ false) (empty : (j n : ℕ) → suc j ≡ level → n / 512 ≡ number → is_free (w.tds.entries t j n).state ≡ true) where
  abbrev p : ℕ
  p = (w.tds.entries t level number).page

  abbrev left : Pages
  left = (take_node p kind.Nda 0 0 0 w).pages

  abbrev gone : Tds
  gone = (set_entry t level number free_entry w).tds

  node : IsNodeOf w.pages t p (kind_named level) level number
  node = node_named m w l t level number alive used

  -- it is neither a TDR page nor one of a list
  of-kind : (q : ℕ) (k : PageKind) → is_named_kind k ≡ false → w.pages.kinds q ≡ k → (q == p) ≡ false
  of-kind q k h e = by_test (q == p)
      (λ y. absurd (let no : true ≡ false = sym (named_kind level) ∙ (ap is_named_kind (sym node.page.kind ∙ (ap w.pages.kinds (sym (eqb-true q p y)) ∙ e)) ∙ h) in cc))
      (λ n. n)

  back : (x : ℕ) → IsAlive left gone x → IsAlive w.pages w.tds x
  back x a = record { kind = by_test (x == p) (λ y. absurd (let no : kind.Nda ≡ kind.Tdr = rw y at a.kind in cc)) (λ n. rw n at a.kind); life = a.life }

  forth : (x : ℕ) → IsAlive w.pages w.tds x → IsAlive left gone x
  forth x a = record { kind = (let n = of-kind x kind.Tdr refl a.kind in rw n (a.kind)); life = a.life }

  page_still : (x q : ℕ) (k : PageKind) → (q == p) ≡ false → IsPageOf w.pages x q k → IsPageOf left x q k
  page_still x q k n h = record { kind = rw n (h.kind); owner = rw n (h.owner) }

  node_still : (x q : ℕ) (k : PageKind) (j n : ℕ) → (q == p) ≡ false → IsNodeOf w.pages x q k j n → IsNodeOf left x q k j n
  node_still x q k j n e h = record { page = page_still x q k e h.page; level_is = rw e (h.level_is); number_is = rw e (h.number_is) }

  listed : (lists : ℕ → List ℕ) (k : PageKind) → k ≢ kind.Nda → ((q : ℕ) → IsListed w.pages w.tds lists k q) → (q : ℕ) → IsListed left gone lists k q
  listed lists k owned h q e a = by_test (q == p) (λ y. absurd (owned (sym (rw y at e)))) (λ n. there n)
    where
      there : (q == p) ≡ false → list_any (λ x. x == q) (lists (left.owners q)) ≡ true
      there n =
          let e' : w.pages.kinds q ≡ k = rw n at e in
          let a' : IsAlive left gone (w.pages.owners q) = rw n at a in
          rw n (h q e' (back (w.pages.owners q) a'))

  -- the page of another entry is another page
  pub other_entry : (x j n : ℕ) → IsAlive w.pages w.tds x → is_free (w.tds.entries x j n).state ≡ false → (x ≡ t → j ≡ level → n ≡ number → ⊥) → ((w.tds.entries x j n).page == p) ≡ false
  other_entry x j n a e apart = by_test ((w.tds.entries x j n).page == p)
      (λ y. let same = eqb-true _ p y in let its = node_named m w l x j n a e in
      absurd (apart (sym its.page.owner ∙ (ap w.pages.owners same ∙ node.page.owner)) (sym its.level_is ∙ (ap w.pages.levels same ∙ node.level_is)) (sym its.number_is ∙ (ap w.pages.numbers same ∙ node.number_is))))
      (λ y. y)

  -- an entry that isn't FREE now isn't the one that was freed, and was as it is
  abbrev IsAsBefore : ℕ → ℕ → ℕ → Entry → Type 0
  IsAsBefore x j n e = is_free e.state ≡ false → (e ≡ w.tds.entries x j n) × (x ≡ t → j ≡ level → n ≡ number → ⊥)

  as_before : (x j n : ℕ) → IsAsBefore x j n (gone.entries x j n)
  as_before x j n = entry_set w t level number free_entry (IsAsBefore x j n) x j n (λ a b c h. absurd (let no : true ≡ false = h in cc)) (λ apart h. (refl, apart))

  still_used : (x j n : ℕ) → is_free (w.tds.entries x j n).state ≡ false → (x ≡ t → j ≡ level → n ≡ number → ⊥) → is_free (gone.entries x j n).state ≡ false
  still_used x j n h apart = entry_set w t level number free_entry (λ e. is_free e.state ≡ false) x j n (λ a b c. absurd (apart a b c)) (λ z. h)

  same_there : (x j n : ℕ) → (x ≡ t → j ≡ level → n ≡ number → ⊥) → gone.entries x j n ≡ w.tds.entries x j n
  same_there x j n apart = entry_set w t level number free_entry (λ e. e ≡ w.tds.entries x j n) x j n (λ a b c. absurd (apart a b c)) (λ z. refl)

  gone_tree : LawfulTree m.pages left gone
  gone_tree = record {
    entry = λ few x j n. entry_set w t level number free_entry (λ e. is_lawful_entry e ≡ true) x j n (λ a b c. refl) (λ z. l.tree.entry few x j n);
    upper = λ x j n a h.
        let b = as_before x (suc j) n h in
        let was : is_free (w.tds.entries x (suc j) n).state ≡ false = subst (λ (e : Entry). is_free e.state ≡ false) b.0 h in
        let u = l.tree.upper x j n (back x a) was in
        subst (λ (e : Entry). (is_node e.state ≡ true) × IsNodeOf left x e.page kind.Ept (suc j) n) (sym b.0) (u.0, node_still x _ kind.Ept (suc j) n (other_entry x (suc j) n (back x a) was b.1) u.1);
    lowest = λ x n a h.
        let b = as_before x 0 n h in
        let was : is_free (w.tds.entries x 0 n).state ≡ false = subst (λ (e : Entry). is_free e.state ≡ false) b.0 h in
        let u = l.tree.lowest x n (back x a) was in
        subst (λ (e : Entry). (is_node e.state ≡ false) × IsNodeOf left x e.page kind.Reg 0 n) (sym b.0) (u.0, node_still x _ kind.Reg 0 n (other_entry x 0 n (back x a) was b.1) u.1);
    below = λ x j n few a h.
        let b = as_before x j n h in
        let was : is_free (w.tds.entries x j n).state ≡ false = subst (λ (e : Entry). is_free e.state ≡ false) b.0 h in
        still_used x (suc j) (n / 512) (l.tree.below x j n few (back x a) was)
        (λ e f g. let no : true ≡ false = sym (empty j n f g) ∙ (ap (λ (z : ℕ). is_free (w.tds.entries z j n).state) (sym e) ∙ was) in cc);
    in_range = λ x j n h. l.tree.in_range x j n (subst (λ (e : Entry). is_free e.state ≡ false) (as_before x j n h).0 h);
    named = λ q k a. by_test (q == p)
        (λ y. absurd (let no : false ≡ true = rw y at k in cc))
        (λ y. named_still q y (rw y at k) (rw y at a));
  }
    where
      named_still : (q : ℕ) → (q == p) ≡ false → is_named_kind (w.pages.kinds q) ≡ true → IsAlive left gone (w.pages.owners q)
          → (is_free (gone.entries (left.owners q) (left.levels q) (left.numbers q)).state ≡ false) × ((gone.entries (left.owners q) (left.levels q) (left.numbers q)).page ≡ q) × (left.levels q ≤ 3)
      named_still q y k a =
          let u = l.tree.named q k (back (w.pages.owners q) a) in
          let apart : w.pages.owners q ≡ t → w.pages.levels q ≡ level → w.pages.numbers q ≡ number → ⊥ = λ e f g.
          let same : w.tds.entries (w.pages.owners q) (w.pages.levels q) (w.pages.numbers q) ≡ w.tds.entries t level number = rw (e, f, g) refl in
          let is : q ≡ p = sym u.1 ∙ ap (λ (z : Entry). z.page) same in
          let no : true ≡ false = sym (Rattle.std.proofs.lemmas.Bool.eq-eqb q p is) ∙ y in cc in
          let same = same_there (w.pages.owners q) (w.pages.levels q) (w.pages.numbers q) apart in
          rw y (ap (λ (z : Entry). is_free z.state) same ∙ u.0, ap (λ (z : Entry). z.page) same ∙ u.1, u.2)

  -- it wasn't exported, and neither is a FREE entry
  same_where : (f : EntryState → Bool) → IsOfExported f → (x n : ℕ) → f (gone.entries x 0 n).state ≡ f (w.tds.entries x 0 n).state
  same_where f of x n = entry_set w t level number free_entry (λ e. f e.state ≡ f (w.tds.entries x 0 n).state) x 0 n
      (λ a b c. of entry.Free refl ∙ sym (rw (a, b, c) (of _ unmarked)))
      (λ z. refl)

  uncounted : (f : EntryState → Bool) → IsOfExported f → (x j : ℕ) → j ≡ level → (same_kind (kind_named j) kind.Reg && (t == x && f (w.tds.entries x 0 number).state)) ≡ false
  uncounted f of x zero e = by_test (t == x)
      (λ y. and_right (t == x) _ (let same = eqb-true t x y in subst (λ (z : ℕ). f (w.tds.entries z 0 number).state ≡ false) same (subst (λ (z : ℕ). f (w.tds.entries t z number).state ≡ false) (sym e) (of _ unmarked))))
      (λ n. and_left (t == x) _ n)
  uncounted f of x (suc j) e = refl

  counted_as : (x : ℕ) (f : EntryState → Bool) → IsOfExported f → (q : ℕ) → is_page_where f left x (gone.entries x 0) q ≡ is_page_where f w.pages x (w.tds.entries x 0) q
  counted_as x f of q = by_test (q == p)
      (λ y. rw y (sym (subst (λ (z : ℕ). is_page_where f w.pages x (w.tds.entries x 0) z ≡ false) (sym (eqb-true q p y))
      (ap (λ (k : PageKind). same_kind k kind.Reg && (w.pages.owners p == x && f (w.tds.entries x 0 (w.pages.numbers p)).state)) node.page.kind
      ∙ (ap (λ (z : ℕ). same_kind (kind_named level) kind.Reg && (z == x && f (w.tds.entries x 0 (w.pages.numbers p)).state)) node.page.owner
      ∙ (ap (λ (z : ℕ). same_kind (kind_named level) kind.Reg && (t == x && f (w.tds.entries x 0 z).state)) node.number_is ∙ uncounted f of x level refl))))))
      (λ n. rw n (ap (λ (b : Bool). same_kind (w.pages.kinds q) kind.Reg && (w.pages.owners q == x && b)) (same_where f of x (w.pages.numbers q))))

  pub unmapped_kept : Lawful m (unmap_page t level number w)
  unmapped_kept = record {
    size = l.size;
    pages = record {
      tdr = λ x. by_test (x == p) (λ y e. absurd (let no : kind.Nda ≡ kind.Tdr = rw y at e in cc)) (λ n e. rw n (l.pages.tdr x (rw n at e)));
      owner = λ q. by_test (q == p)
          (λ y e. absurd (let no : true ≡ false = rw y at e in cc))
          (λ n e. let root = l.pages.owner q (rw n at e) in let off = of-kind (w.pages.owners q) kind.Tdr refl root in rw (n, off) root);
      in_machine = λ q. by_test (q == p) (λ y e. absurd (let no : true ≡ false = rw y at e in cc)) (λ n e. l.pages.in_machine q (rw n at e));
      host = λ q. by_test (q == p) (λ y e. rw y (refl, refl)) (λ n e. rw n (l.pages.host q (rw n at e)));
      blocked = λ q. by_test (q == p) (λ y. rw y (lit< tt)) (λ n. rw n (l.pages.blocked q));
    };
    tds = record {
      controls = λ x a. controls_as w.pages left x (λ q h. page_still x q kind.Tdcx (of-kind q kind.Tdcx refl h.kind) h) (w.tds.controls x) (l.tds.controls x (back x a));
      vps = λ x a. pages_as w.pages left x kind.Tdvpr (λ q h. page_still x q kind.Tdvpr (of-kind q kind.Tdvpr refl h.kind) h) (w.tds.vps x) (l.tds.vps x (back x a));
      vps_few = l.tds.vps_few;
      vps_differ = l.tds.vps_differ;
      vps_expected = l.tds.vps_expected;
      streams = λ x a. pages_as w.pages left x kind.Migsc (λ q h. page_still x q kind.Migsc (of-kind q kind.Migsc refl h.kind) h) (w.tds.streams x) (l.tds.streams x (back x a));
      streams_few = l.tds.streams_few;
      streams_differ = l.tds.streams_differ;
      epoch = l.tds.epoch;
      epoch_begun = l.tds.epoch_begun;
    };
    lists = record {
      control = listed w.tds.controls kind.Tdcx (λ e. cc) l.lists.control;
      vp = listed w.tds.vps kind.Tdvpr (λ e. cc) l.lists.vp;
      stream = listed w.tds.streams kind.Migsc (λ e. cc) l.lists.stream;
      index = λ x i v a. l.lists.index x i v (back x a);
    };
    tree = gone_tree;
    keys = record {
      in_range = λ x a. l.keys.in_range x (back x a);
      owner = λ x a. l.keys.owner x (back x a);
      owned = λ h x e. (let o = l.keys.owned h x e in (forth x o.0, o.1));
      flushed = λ x a. l.keys.flushed x (back x a);
    };
    beginnings = record {
      is_new = λ x a n. (let is_new = l.beginnings.is_new x (back x a) n in by_test (x == t)
          (λ y. absurd (let no : true ≡ false = sym (ap (λ (e : Entry). is_free e.state) (is_new.entries level number)) ∙ (ap (λ (z : ℕ). is_free (w.tds.entries z level number).state) (eqb-true x t y) ∙ used) in cc))
          (λ y. new_kept w.tds gone w.hidden.rtmrs w.hidden.rtmrs x (rw y refl) is_new));
    };
    counts = counts_kept m.pages w.pages left w.tds gone w.streams back (λ x. refl) (λ x a f of q. counted_as x f of q) l.counts;
    streams = streams_kept w.pages left w.tds gone w.streams back (λ x e. e) refl l.streams;
    sessions = sessions_kept w.tds gone w.key_table w.key_table refl (λ x h. h) l.sessions;
  }
