-- A host page becomes the one that a FREE entry of a TD names: what every world keeps.
use Rattle.std.proofs.Common.{◌≡◌, ◌≢◌, refl, sym, ◌∙◌, subst, ap, ℕ, zero, suc, ◌*◌, ◌/◌, ◌^◌, ◌<◌, ◌≤◌, List, [], ◌∷◌, ◌++◌, length, map, Bool, true, false, ◌==◌, ◌&&◌, arith}
use Rattle.std.specs.Prelude.{nat_lt}
use Rattle.std.proofs.lemmas.Bool.{eqb-true, and_left, and_right}
use Rattle.td_words.specs.declared.names.PageKind.{PageKind}
use Rattle.td_words.specs.declared.names.PageKind.TheVariants as kind
use Rattle.td_words.specs.declared.names.EntryState.{EntryState}
use Rattle.td_words.specs.declared.names.EntryState.TheVariants as entry
use Rattle.td_words.specs.declared.machines.Machine.{Machine}
use Rattle.td_words.specs.declared.replies.Reply.{Reply}
use Rattle.td_words.specs.declared.replies.Reply.TheVariants.{Refused}
use Rattle.td_words.specs.declared.refusals.Status.TheVariants.{EptWalkFailed}
use Rattle.td_words.specs.Packing.{Entry, is_lawful_entry, is_exported}
use Rattle.flat_core.specs.World.{World, Tds}
use Rattle.flat_core.specs.Row.{Item, Check, Passes}
use Rattle.flat_core.specs.Arguments.{level_size}
use Rattle.flat_core.specs.Conditions.{same_kind}
use Rattle.flat_core.specs.Tree.{number_at, same_state, is_passed, levels_above, walk}
use Rattle.flat_core.specs.Effects.{map_page}
use Rattle.flat_core.specs.Lawful.{IsAlive, IsNodeOf, IsListed, Lawful, LawfulTree, LawfulCounts, is_free, is_node, is_named_kind}
use Rattle.flat_core.proofs.Tests.{by_test, same_self}
use Rattle.flat_core.proofs.Exports.{IsOfExported, free_unmarked, counts_kept, taken_where}
use Rattle.flat_core.proofs.Parts.{now, IsNamed, new_kept, sessions_kept, streams_kept, built_other, taken_back, taken_page_facts, taken_tds, taken_all_listed, taken_upper, taken_lowest, taken_keys, named_there}

-- what an entry of a level names: an upper one a secure EPT page, one of level 0 a private page
abbrev pub kind_named : ℕ → PageKind
kind_named zero = kind.Reg
kind_named (suc l) = kind.Ept

abbrev pub is_upper : ℕ → Bool
is_upper zero = false
is_upper (suc l) = true

never_host : (l : ℕ) → kind_named l ≢ kind.Nda
never_host zero e = cc
never_host (suc l) e = cc

pub named_owned : (l : ℕ) → same_kind (kind_named l) kind.Nda ≡ false
named_owned zero = refl
named_owned (suc l) = refl

pub node_named : (m : Machine) (w : World) → Lawful m w → (t l n : ℕ) → IsAlive w.pages w.tds t → is_free (w.tds.entries t l n).state ≡ false → IsNodeOf w.pages t (w.tds.entries t l n).page (kind_named l) l n
node_named m w lawful t zero n a e = (lawful.tree.lowest t n a e).1
node_named m w lawful t (suc l) n a e = (lawful.tree.upper t l n a e).1

pub named_kind : (l : ℕ) → is_named_kind (kind_named l) ≡ true
named_kind zero = refl
named_kind (suc l) = refl

-- no page that a list has
pub unlisted : (l : ℕ) (j : PageKind) → is_named_kind j ≡ false → kind_named l ≢ j
unlisted l j h e = let no : true ≡ false = sym (named_kind l) ∙ (ap is_named_kind e ∙ h) in cc

pub never_tdr : (l : ℕ) → kind_named l ≢ kind.Tdr
never_tdr zero e = cc
never_tdr (suc l) e = cc

new_entry : (s : EntryState) (p : ℕ) → p < 1024 → is_free s ≡ false → is_exported s ≡ false → is_lawful_entry (record { state = s; page = p; mark = 0 }) ≡ true
new_entry s p small taken unmarked = by s taken unmarked
  where
    fits : nat_lt p 1024 ≡ true
    fits = grind arith

    by : (s : EntryState) → is_free s ≡ false → is_exported s ≡ false → is_lawful_entry (record { state = s; page = p; mark = 0 }) ≡ true
    by entry.Free h k = cc
    by entry.ExportedBlockedW h k = cc
    by entry.ExportedDirty h k = cc
    by entry.ExportedDirtyBlockedW h k = cc
    by _ h k = rw fits refl

module _ (m : Machine) (w : World) (p t level number : ℕ) (s : EntryState) (host : w.pages.kinds p ≡ kind.Nda) (small : p < m.pages) (l : Lawful m w) (root : w.pages.kinds t ≡ kind.Tdr)
    (built : (length (w.tds.controls t) == 2) ≡ true) (free : is_free (w.tds.entries t level number).state ≡ true) (parent : level < 3 → is_free (w.tds.entries t (suc level) (number / 512)).state ≡ false)
    (used : is_free s ≡ false) (node : is_node s ≡ is_upper level) (unmarked : is_exported s ≡ false) (low : level ≤ 3) (within : number * level_size level < 2 ^ 47) where
  abbrev k : PageKind
  k = kind_named level

  abbrev new : Entry
  new = record { state = s; page = p; mark = 0 }

  abbrev mapped : Tds
  mapped = (map_page p k s t level number w).tds

  abbrev pages : Rattle.flat_core.specs.World.Pages
  pages = now m w p k t level number host small l (never_host level) (never_tdr level) root

  as_before : (x : ℕ) → IsAlive pages mapped x → IsAlive pages w.tds x
  as_before x a = record { kind = a.kind; life = a.life }

  back : (x : ℕ) → IsAlive pages mapped x → IsAlive w.pages w.tds x
  back x a = taken_back m w p k t level number host small l (never_host level) (never_tdr level) root x (as_before x a)

  -- an entry is the new one, or another one and as it was
  at_place : (P : Entry → Type 0) (x j n : ℕ) → (x ≡ t → j ≡ level → n ≡ number → P new) → ((x ≡ t → j ≡ level → n ≡ number → ⊥) → P (w.tds.entries x j n)) → P (mapped.entries x j n)
  at_place P x j n here there = by_test (x == t)
      (λ y. subst (λ (z : ℕ). P (mapped.entries z j n)) (sym (eqb-true x t y)) (by_test (j == level)
      (λ u. by_test (n == number)
      (λ v. rw (same_self t, u, v) (here (eqb-true x t y) (eqb-true j level u) (eqb-true n number v)))
      (λ v. rw (same_self t, u, v) (moved (eqb-true x t y) (λ a b c. absurd (let no : true ≡ false = sym (rw c (same_self number)) ∙ v in cc)))))
      (λ u. rw (same_self t, u) (moved (eqb-true x t y) (λ a b c. absurd (let no : true ≡ false = sym (rw b (same_self level)) ∙ u in cc))))))
      (λ y. rw y (there (λ a b c. absurd (let no : true ≡ false = sym (rw a (same_self t)) ∙ y in cc))))
    where
      moved : x ≡ t → (x ≡ t → j ≡ level → n ≡ number → ⊥) → P (w.tds.entries t j n)
      moved e apart = subst (λ (z : ℕ). P (w.tds.entries z j n)) e (there apart)

  owner_here : pages.owners p ≡ t
  owner_here = rw (same_self p) refl

  node_here : IsNodeOf pages t p k level number
  node_here = record { page = record { kind = rw (same_self p) refl; owner = owner_here }; level_is = rw (same_self p) refl; number_is = rw (same_self p) refl }

  abbrev SaysUpper : ℕ → ℕ → ℕ → Entry → Type 0
  SaysUpper x j n e = is_free e.state ≡ false → (is_node e.state ≡ true) × IsNodeOf pages x e.page kind.Ept (suc j) n

  abbrev SaysLowest : ℕ → ℕ → Entry → Type 0
  SaysLowest x n e = is_free e.state ≡ false → (is_node e.state ≡ false) × IsNodeOf pages x e.page kind.Reg 0 n

  abbrev Says : ℕ → ℕ → ℕ → Entry → Type 0
  Says x j n e = (is_node e.state ≡ is_upper j) × IsNodeOf pages x e.page (kind_named j) j n

  says_new : (x j n : ℕ) → x ≡ t → j ≡ level → n ≡ number → Says x j n new
  says_new x j n a b c = subst (λ (z : ℕ). Says z j n new) (sym a) (subst (λ (z : ℕ). Says t z n new) (sym b) (subst (λ (z : ℕ). Says t level z new) (sym c) (node, node_here)))

  abbrev IsUsed : Entry → Type 0
  IsUsed e = is_free e.state ≡ false

  -- above an entry that is mapped
  above_kept : (x j n : ℕ) → is_free (w.tds.entries x (suc j) n).state ≡ false → is_free (mapped.entries x (suc j) n).state ≡ false
  above_kept x j n h = at_place IsUsed x (suc j) n (λ a b c. used) (λ apart. h)

  parent_at : (x j n : ℕ) → x ≡ t → j ≡ level → n ≡ number → j < 3 → is_free (w.tds.entries x (suc j) (n / 512)).state ≡ false
  parent_at x j n a b c few = rw (a, b, c) (parent (rw b at few))

  -- a secure EPT page or a private page is named by the entry at its node
  abbrev Names : ℕ → Entry → Type 0
  Names q e = (is_free e.state ≡ false) × (e.page ≡ q) × (pages.levels q ≤ 3)

  named_new : Names p (mapped.entries (pages.owners p) (pages.levels p) (pages.numbers p))
  named_new = at_place (Names p) (pages.owners p) (pages.levels p) (pages.numbers p) (λ a b c. (used, refl, subst (λ (l : ℕ). l ≤ 3) (sym node_here.level_is) low)) (λ apart. absurd (apart owner_here node_here.level_is node_here.number_is))

  named_old : (q : ℕ) → IsNamed m w p k t level number host small l (never_host level) (never_tdr level) root q pages → Names q (mapped.entries (pages.owners q) (pages.levels q) (pages.numbers q))
  named_old q h = at_place (Names q) (pages.owners q) (pages.levels q) (pages.numbers q)
      (λ a b c. absurd (let no : true ≡ false = sym free ∙ (rw (a, b, c) at h.0) in cc))
      (λ apart. h)

  mapped_tree : LawfulTree m.pages pages mapped
  mapped_tree = record {
    entry = λ few x j n. at_place (λ (e : Entry). is_lawful_entry e ≡ true) x j n (λ a b c. new_entry s p (omega (arith, small, few)) used unmarked) (λ apart. l.tree.entry few x j n);
    upper = λ x j n a. at_place (SaysUpper x j n) x (suc j) n
        (λ e f g h. says_new x (suc j) n e f g)
        (λ apart. taken_upper m w p k t level number host small l (never_host level) (never_tdr level) root x j n (as_before x a));
    lowest = λ x n a. at_place (SaysLowest x n) x 0 n
        (λ e f g h. says_new x 0 n e f g)
        (λ apart. taken_lowest m w p k t level number host small l (never_host level) (never_tdr level) root x n (as_before x a));
    below = λ x j n few a. at_place (λ (e : Entry). is_free e.state ≡ false → is_free (mapped.entries x (suc j) (n / 512)).state ≡ false) x j n
        (λ e f g h. above_kept x j (n / 512) (parent_at x j n e f g few))
        (λ apart h. above_kept x j (n / 512) (l.tree.below x j n few (back x a) h));
    in_range = λ x j n. at_place (λ (e : Entry). is_free e.state ≡ false → n * level_size j < 2 ^ 47) x j n (λ a b c h. rw (b, c) within) (λ apart. l.tree.in_range x j n);
    named = λ q e a. by_test (q == p)
        (λ y. subst (λ (z : ℕ). Names z (mapped.entries (pages.owners z) (pages.levels z) (pages.numbers z))) (sym (eqb-true q p y)) named_new)
        (λ y. named_old q (named_there m w p k t level number host small l (never_host level) (never_tdr level) root q y e (as_before (pages.owners q) a)));
  }

  -- it isn't exported, and neither was what stood there
  free_at : (x j n : ℕ) → x ≡ t → j ≡ level → n ≡ number → is_free (w.tds.entries x j n).state ≡ true
  free_at x j n a b c = rw (a, b, c) free

  same_where : (f : EntryState → Bool) → IsOfExported f → (x n : ℕ) → f (mapped.entries x 0 n).state ≡ f (w.tds.entries x 0 n).state
  same_where f of x n = at_place (λ (e : Entry). f e.state ≡ f (w.tds.entries x 0 n).state) x 0 n
      (λ a b c. of s unmarked ∙ sym (of _ (free_unmarked _ (free_at x 0 n a b c))))
      (λ apart. refl)

  uncounted : (f : EntryState → Bool) → IsOfExported f → (x j : ℕ) → j ≡ level → (same_kind (kind_named j) kind.Reg && (t == x && f (mapped.entries x 0 number).state)) ≡ false
  uncounted f of x zero e = by_test (t == x)
      (λ y. and_right (t == x) _ (same_where f of x number ∙ of _ (free_unmarked _ (free_at x 0 number (sym (eqb-true t x y)) e refl))))
      (λ n. and_left (t == x) _ n)
  uncounted f of x (suc j) e = refl

  mapped_counts : LawfulCounts m.pages pages mapped w.streams
  mapped_counts = counts_kept m.pages w.pages pages w.tds mapped w.streams back (λ x. refl)
      (λ x a f of. taken_where m.pages w.pages p k t level number host l.pages f x (w.tds.entries x 0) (mapped.entries x 0) (same_where f of x) (uncounted f of x level refl)) l.counts

  listed : (lists : ℕ → List ℕ) (j : PageKind) → is_named_kind j ≡ false → ((q : ℕ) → IsListed w.pages w.tds lists j q) → (q : ℕ) → IsListed pages w.tds lists j q
  listed lists j h = taken_all_listed m w p k t level number host small l (never_host level) (never_tdr level) root lists j (unlisted level j h)

  pub map_kept : Lawful m (map_page p k s t level number w)
  map_kept =
      let tds' = taken_tds m w p k t level number host small l (never_host level) (never_tdr level) root in
      let keys' = taken_keys m w p k t level number host small l (never_host level) (never_tdr level) root in
      record {
        size = l.size;
        pages = taken_page_facts m w p k t level number host small l (never_host level) (never_tdr level) root;
        tds = record {
          controls = λ x a. tds'.controls x (as_before x a);
          vps = λ x a. tds'.vps x (as_before x a);
          vps_few = tds'.vps_few;
          vps_differ = tds'.vps_differ;
          vps_expected = tds'.vps_expected;
          streams = λ x a. tds'.streams x (as_before x a);
          streams_few = tds'.streams_few;
          streams_differ = tds'.streams_differ;
          epoch = tds'.epoch;
          epoch_begun = tds'.epoch_begun;
        };
        lists = record {
          control = λ q e a. listed w.tds.controls kind.Tdcx refl l.lists.control q e (as_before (pages.owners q) a);
          vp = λ q e a. listed w.tds.vps kind.Tdvpr refl l.lists.vp q e (as_before (pages.owners q) a);
          stream = λ q e a. listed w.tds.streams kind.Migsc refl l.lists.stream q e (as_before (pages.owners q) a);
          index = λ x i v a. l.lists.index x i v (back x a);
        };
        tree = mapped_tree;
        keys = record {
          in_range = λ x a. keys'.in_range x (as_before x a);
          owner = λ x a. keys'.owner x (as_before x a);
          owned = λ h x e. (let o = keys'.owned h x e in (record { kind = o.0.kind; life = o.0.life }, o.1));
          flushed = λ x a. keys'.flushed x (as_before x a);
        };
        beginnings = record { is_new = λ x a n. new_kept w.tds mapped w.hidden.rtmrs w.hidden.rtmrs x (rw (built_other w.tds.controls t x built n) refl) (l.beginnings.is_new x (back x a) n) };
        counts = mapped_counts;
        streams = streams_kept w.pages pages w.tds mapped w.streams back (λ x e. e) refl l.streams;
        sessions = sessions_kept w.tds mapped w.key_table w.key_table refl (λ x h. h) l.sessions;
      }

-- A walk that finds its entry passed over one that isn't FREE directly above it.

pub not_free : (s : EntryState) → same_state s entry.NlMapped ≡ true → is_free s ≡ false
not_free entry.Free h = cc
not_free _ h = refl

-- what comes behind a walk, which is conditions alone
pub behind_conditions : (b : ℕ → Bool) (r : ℕ → Reply) (ls : List ℕ) (items : List (Item Reply)) → Passes (map (λ l. Check (b l) (r l)) ls ++ items) → Passes items
behind_conditions b r [] items ps = ps
behind_conditions b r (l ∷ ls) items ps = behind_conditions b r ls items ps.1

pub behind_walk : (w : World) (t gpa level : ℕ) (items : List (Item Reply)) → Passes (walk w t gpa level ++ items) → Passes items
behind_walk w t gpa level items ps = behind_conditions (is_passed w t gpa) (λ l. Refused (EptWalkFailed l)) (levels_above level) items ps

module _ (w : World) (t gpa : ℕ) (rest : List (Item Reply)) where
  abbrev Above : ℕ → Type 0
  Above level = level < 3 → is_free (w.tds.entries t (suc level) (number_at level gpa / 512)).state ≡ false

  above_at : (level n : ℕ) → n ≡ number_at level gpa / 512 → same_state (w.tds.entries t (suc level) n).state entry.NlMapped ≡ true → Above level
  above_at level n e h few = subst (λ (i : ℕ). is_free (w.tds.entries t (suc level) i).state ≡ false) e (not_free (w.tds.entries t (suc level) n).state h)

  above : (level : ℕ) → level ≤ 3 → Passes (walk w t gpa level ++ rest) → Above level
  above zero few ps = above_at 0 (number_at 1 gpa) (omega arith) ps.1.1.0
  above (suc zero) few ps = above_at 1 (number_at 2 gpa) (omega arith) ps.1.0
  above (suc (suc zero)) few ps = above_at 2 (number_at 3 gpa) (omega arith) ps.0
  above (suc (suc (suc level))) few ps = λ apart. absurd (omega arith)

  pub walk_passed : (level : ℕ) → level ≤ 3 → Passes (walk w t gpa level ++ rest) → Passes rest × Above level
  walk_passed level few ps = (behind_walk w t gpa level rest ps, above level few ps)
