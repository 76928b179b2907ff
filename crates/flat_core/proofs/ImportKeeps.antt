-- Each row of an import keeps what every world keeps, whatever bundle has come in.
use Rattle.std.proofs.Common.{lit<, lit≤, ◌≡◌, ◌≢◌, refl, sym, ◌∙◌, subst, ap, ℕ, zero, suc, ◌+◌, ◌-◌, ◌*◌, ◌%◌, ◌^◌, ◌<◌, ◌≤◌, List, [], ◌∷◌, ◌++◌, length, Bool, true, false, ◌==◌, ◌&&◌, nat_lt, arith}
use Rattle.std.specs.Prelude.{Option, Some, None, Result, Ok, Err, nat_le}
use Rattle.std.specs.List.{list_any}
use Rattle.std.proofs.Math.Nat.{lt_of_le_of_lt, div-mul-le_self}
use Rattle.std.proofs.lemmas.Bool.{eq-eqb, eqb-true, and_parts, ltb-true, leb-true, le-leb}
use Rattle.td_words.specs.declared.names.PageKind.TheVariants as kind
use Rattle.td_words.specs.declared.names.OpState.{OpState}
use Rattle.td_words.specs.declared.names.OpState.TheVariants as op
use Rattle.td_words.specs.declared.names.EntryState.{EntryState}
use Rattle.td_words.specs.declared.names.EntryState.TheVariants as entry
use Rattle.td_words.specs.declared.names.HeaderField.{HeaderField}
use Rattle.td_words.specs.declared.machines.Machine.{Machine}
use Rattle.td_words.specs.declared.replies.Reply.{Reply}
use Rattle.td_words.specs.NameNumber.{op_number}
use Rattle.flat_core.specs.World.{World, Tds, ClearHeader, put}
use Rattle.flat_core.specs.Opening.{Incoming}
use Rattle.flat_core.specs.Row.{Item, Passes}
use Rattle.flat_core.specs.Arguments.{level_size, apart_argument}
use Rattle.flat_core.specs.Tree.{number_at, entry_at}
use Rattle.flat_core.specs.Effects.{set_op, map_page}
use Rattle.flat_core.specs.Sessions.{stream_page, stream_counter, count_bundle, set_mig_epoch}
use Rattle.flat_core.specs.Inputs.{Input, has_values, has_no_fault, fault_of_input, header_of_input, input_in, is_list, fits_version, most_info, most_gpa, input_row, tag_holds}
use Rattle.flat_core.specs.PageLists.{most_pages, page_count, count_argument, pages_argument, Arrival, arrivals}
use Rattle.flat_core.specs.ImportRows.{first_ops, filling_ops, td_state_ops, vp_state_ops, commit_ops, late_ops, given_up_ops, sent_ops, begin_import, import_immutable, fill_page, take_in, take_each, list_says, import_conditions, import_pages, is_start, import_token_ops, op_then, import_token, give_rtmrs, import_td, import_vp, note_commit, commit_import, end_import, abort_import, abort_by_token}
use Rattle.flat_core.specs.Lawful.{IsAlive, Lawful, RowKeeps, is_free, is_exporting, is_importing, most_vps}
use Rattle.flat_core.proofs.Tests.{by_test, host_kind, range_of, same_self}
use Rattle.flat_core.proofs.Exports.{counts_of}
use Rattle.flat_core.proofs.Parts.{untouched, streams_kept, sessions_kept, sessions_of, session_at, same_shape, built_kept, op_kept, new_kept, built_other}
use Rattle.flat_core.proofs.Maps.{map_kept}
use Rattle.flat_core.proofs.PageLists.{passes_first, passes_behind, arrivals_apart, MayTake, AllMayTake, all_may_take, EachIs, each_taken, TakenAs, takes_leave}
use Rattle.flat_core.proofs.Streams.{stream_among}
use Rattle.flat_core.proofs.Ranges.{begun_of}
use Rattle.flat_core.proofs.Passed.{TdPassed, td_alive}
use Rattle.flat_core.proofs.BundleKeeps.{of_begun, counted_bundle}

-- what the values of a header in form are bounded by
pub record IsInForm (h : ClearHeader) : Type 0 where
  pub info : h.kind ≢ 3 → h.info ≤ most_info h.kind
  pub gpa : h.gpa ≤ most_gpa h.kind
  pub aligned : h.gpa % 4096 ≡ 0
  pub list : is_list h ≡ true → h.gpa + 4096 * h.info ≤ 2 ^ 47
  pub counter : h.counter < 2 ^ 32
  pub epoch : h.epoch < 2 ^ 32
  pub session : h.session < 2 ^ 16

pub in_form : (h : ClearHeader) → has_values h ≡ true → IsInForm h
in_form h e =
    let a = and_parts (nat_le h.stream _) _ e in
    let b = and_parts (nat_le h.index _) _ a.1 in
    let c = and_parts (fits_version h) _ b.1 in
    let f = and_parts (h.gpa % 4096 == 0) _ c.1 in
    let g = and_parts (nat_lt h.counter (2 ^ 32)) _ f.1 in
    let i = and_parts (h.iv == h.counter) _ g.1 in
    let j = and_parts (nat_lt h.epoch (2 ^ 32)) _ i.1 in
    let k = and_parts (nat_le 1 h.session) _ j.1 in
    record {
      info = λ other. by_test (is_list h) (λ y. absurd (other (eqb-true _ 3 (and_parts (h.version == 2) (h.kind == 3) y).1))) (λ n. (one n c.0).0);
      gpa = by_test (is_list h) (λ y. few (list y c.0) (eqb-true _ 3 (and_parts (h.version == 2) (h.kind == 3) y).1)) (λ n. (one n c.0).1);
      aligned = eqb-true _ 0 f.0;
      list = λ y. (list y c.0).1;
      counter = ltb-true _ _ g.0;
      epoch = ltb-true _ _ j.0;
      session = ltb-true _ _ k.1;
    }
  where
    list : is_list h ≡ true → fits_version h ≡ true → (1 ≤ h.info) × (h.gpa + 4096 * h.info ≤ 2 ^ 47)
    list y fit =
        let parts = and_parts (nat_le 1 h.info) _ (rw y at fit) in
        (leb-true 1 h.info parts.0, leb-true _ _ (and_parts (nat_le h.info most_pages) _ parts.1).1)

    one : is_list h ≡ false → fits_version h ≡ true → (h.info ≤ most_info h.kind) × (h.gpa ≤ most_gpa h.kind)
    one n fit = let parts = and_parts (nat_le h.info (most_info h.kind)) _ (rw n at fit) in (leb-true _ _ parts.0, leb-true _ _ parts.1)

    few : (1 ≤ h.info) × (h.gpa + 4096 * h.info ≤ 2 ^ 47) → h.kind ≡ 3 → h.gpa ≤ most_gpa h.kind
    few fit k = let some = fit.0 in let end = fit.1 in rw k (omega (arith, some, end))

-- an input that has no fault has such a header
abbrev pub HasForm : Input → Type 0
HasForm x = has_no_fault x.fault ≡ true → IsInForm x.header

read_form : (h : Result ClearHeader HeaderField) → has_no_fault (fault_of_input h) ≡ true → IsInForm (header_of_input h)
read_form (Ok h) e = in_form h (by_test (has_values h) (λ y. y) (λ n. (let no : false ≡ true = rw n at e in cc)))
read_form (Err f) e = cc

pub input_form : (b : Option Incoming) → HasForm (input_in b)
input_form None = λ e. cc
input_form (Some b) = read_form b.header

-- operation states of an import: the TD is begun, and isn't being exported
importing : (allowed : List OpState) (s : OpState) → list_any (λ a. op_number a == op_number op.LiveExport) allowed ≡ false → list_any (λ a. op_number a == op_number op.PausedExport) allowed ≡ false
    → list_any (λ a. op_number a == op_number op.PostExport) allowed ≡ false → list_any (λ a. op_number a == op_number s) allowed ≡ true → is_exporting s ≡ false
importing allowed op.LiveExport a b c h = (let no : true ≡ false = sym h ∙ a in cc)
importing allowed op.PausedExport a b c h = (let no : true ≡ false = sym h ∙ b in cc)
importing allowed op.PostExport a b c h = (let no : true ≡ false = sym h ∙ c in cc)
importing allowed _ a b c h = refl

-- that in which a session begins, and those of a TD that is being imported
first_new : (s : OpState) → list_any (λ a. op_number a == op_number s) first_ops ≡ true → s ≡ op.Uninitialized
first_new op.Uninitialized h = refl
first_new _ h = cc

pub filling_importing : (s : OpState) → list_any (λ a. op_number a == op_number s) filling_ops ≡ true → is_importing s ≡ true
filling_importing op.MemoryImport h = refl
filling_importing op.StateImport h = refl
filling_importing _ h = cc

pub td_state_importing : (s : OpState) → list_any (λ a. op_number a == op_number s) td_state_ops ≡ true → is_importing s ≡ true
td_state_importing op.MemoryImport h = refl
td_state_importing _ h = cc

pub vp_state_importing : (s : OpState) → list_any (λ a. op_number a == op_number s) vp_state_ops ≡ true → is_importing s ≡ true
vp_state_importing op.StateImport h = refl
vp_state_importing _ h = cc

commit_importing : (s : OpState) → list_any (λ a. op_number a == op_number s) commit_ops ≡ true → is_importing s ≡ true
commit_importing op.PostImport h = refl
commit_importing _ h = cc

given_up_importing : (s : OpState) → list_any (λ a. op_number a == op_number s) given_up_ops ≡ true → is_importing s ≡ true
given_up_importing op.MemoryImport h = refl
given_up_importing op.StateImport h = refl
given_up_importing op.PostImport h = refl
given_up_importing _ h = cc

-- and their virtual processors
td_state_vps : (s : OpState) (expected n : ℕ) → list_any (λ a. op_number a == op_number s) td_state_ops ≡ true → n ≤ most_vps s expected → n ≤ expected
td_state_vps op.MemoryImport expected n among h = h
td_state_vps _ expected n among h = cc

token_vps : (b : Bool) (s : OpState) (expected n : ℕ) → n ≤ most_vps s expected → n ≤ 8 → n ≤ most_vps (op_then b s) expected
token_vps true s expected n h few = few
token_vps false s expected n h few = h

token_begun : (b : Bool) (s : OpState) → list_any (λ a. op_number a == op_number s) (import_token_ops b) ≡ true → (s ≢ op.Uninitialized) × (is_exporting (op_then b s) ≡ false) × (is_importing s ≡ true) × (op_then b s ≢ op.Uninitialized)
token_begun true s h = (begun_of vp_state_ops s refl h, refl, vp_state_importing s h, λ e. cc)
token_begun false s h = (begun_of filling_ops s refl h, importing filling_ops s refl refl refl h, filling_importing s h, begun_of filling_ops s refl h)

-- a counter that is due isn't the last one
has_room : (got due : ℕ) → (got == due && nat_lt due (2 ^ 32 - 1)) ≡ true → due < 2 ^ 32 - 1
has_room got due h = ltb-true _ _ (and_parts (got == due) (nat_lt due (2 ^ 32 - 1)) h).1

counted : (m : Machine) (w : World) (t k : ℕ) → Lawful m w → IsAlive w.pages w.tds t → w.tds.ops t ≢ op.Uninitialized → k < length (w.tds.streams t) → stream_counter w t k < 2 ^ 32 - 1 → Lawful m (count_bundle t k w)
counted m w t k l alive begun few room = counted_bundle m w (stream_page w t k) l (of_begun m w l t k alive begun few) room

-- IMPORT.STATE.IMMUTABLE: how many virtual processors are expected; what else of the TD begins; and the last imported session
module _ (m : Machine) (w : World) (t : ℕ) (l : Lawful m w) (built : (length (w.tds.controls t) == 2) ≡ true) where
  expected_kept : (n : ℕ) → n ≤ 8 → length (w.tds.vps t) ≤ 0 → Lawful m (record w { tds = record (w.tds) { vps_expected = put w.tds.vps_expected t n } })
  expected_kept n few none = record {
    size = l.size;
    pages = l.pages;
    tds = record {
      controls = λ x a. l.tds.controls x (back x a);
      vps = λ x a. l.tds.vps x (back x a);
      vps_few = l.tds.vps_few;
      vps_differ = l.tds.vps_differ;
      vps_expected = λ x. by_test (x == t) (λ y. rw y few) (λ y. rw y (l.tds.vps_expected x));
      streams = λ x a. l.tds.streams x (back x a);
      streams_few = l.tds.streams_few;
      streams_differ = l.tds.streams_differ;
      epoch = l.tds.epoch;
      epoch_begun = l.tds.epoch_begun;
    };
    lists = record {
      control = λ p e a. l.lists.control p e (back _ a);
      vp = λ p e a. l.lists.vp p e (back _ a);
      stream = λ p e a. l.lists.stream p e (back _ a);
      index = λ x i v a. l.lists.index x i v (back x a);
    };
    tree = record {
      entry = l.tree.entry;
      upper = λ x k i a. l.tree.upper x k i (back x a);
      lowest = λ x i a. l.tree.lowest x i (back x a);
      below = λ x k i few a. l.tree.below x k i few (back x a);
      in_range = l.tree.in_range;
      named = λ p e a. l.tree.named p e (back _ a);
    };
    keys = record {
      in_range = λ x a. l.keys.in_range x (back x a);
      owner = λ x a. l.keys.owner x (back x a);
      owned = λ h x e. (let o = l.keys.owned h x e in (record { kind = o.0.kind; life = o.0.life }, o.1));
      flushed = λ x a. l.keys.flushed x (back x a);
    };
    beginnings = record { is_new = λ x a other. new_kept w.tds tds' w.hidden.rtmrs w.hidden.rtmrs x (rw (built_other w.tds.controls t x built other) refl) (l.beginnings.is_new x (back x a) other) };
    counts = counts_of m.pages w.pages tds' w.streams (λ x a. (l.counts.dirtied x (back x a), l.counts.unrestored x (back x a)));
    streams = streams_kept w.pages w.pages w.tds tds' w.streams back (λ x e. e) refl l.streams;
    sessions = sessions_kept w.tds tds' w.key_table w.key_table refl
        (λ x h. (h.0, h.1, h.2, h.3, by_test (x == t) (λ y. (let same : x ≡ t = eqb-true x t y in rw same (omega (arith, none)))) (λ other. rw other h.4))) l.sessions;
  }
    where
      tds' : Tds
      tds' = record (w.tds) { vps_expected = put w.tds.vps_expected t n }

      back : (x : ℕ) → IsAlive w.pages tds' x → IsAlive w.pages w.tds x
      back x a = record { kind = a.kind; life = a.life }

  begun_kept : (session : ℕ) (mrtd : ℕ → ℕ) → session < 2 ^ 16 → 1 ≤ length (w.tds.streams t) → length (w.tds.vps t) ≤ 0 → Lawful m (record w {
    tds = record (w.tds) {
      ops = put w.tds.ops t op.MemoryImport;
      epochs = put w.tds.epochs t 1;
      mrtds = put w.tds.mrtds t mrtd;
      mrtds_given = put w.tds.mrtds_given t (Some mrtd);
      sessions = put w.tds.sessions t session;
      mig_epochs = put w.tds.mig_epochs t 1;
    };
  })
  begun_kept session mrtd small some none = built_kept m w t built l tds' (same_shape m w t built l tds' refl refl refl refl refl refl) (λ x. refl) refl
      (λ x. by_test (x == t) (λ y. rw y (lit< tt)) (λ n. rw n (l.tds.epoch x)))
      (λ x. by_test (x == t) (λ y e. rw y (lit≤ tt)) (λ n e. rw n (l.tds.epoch_begun x (rw n at e))))
      (λ x n. rw n refl)
      (λ x h. by_test (x == t) (λ y. (let same : x ≡ t = eqb-true x t y in rw y (small, lit< tt, λ e. cc, λ e. rw same some, rw same (omega (arith, none))))) (λ n. rw n h))
      (λ x. by_test (x == t) (λ y e. absurd (let no : op.MemoryImport ≡ op.Uninitialized = rw y at e in cc)) (λ n e. rw n at e))
    where
      tds' : Tds
      tds' = record (w.tds) {
        ops = put w.tds.ops t op.MemoryImport;
        epochs = put w.tds.epochs t 1;
        mrtds = put w.tds.mrtds t mrtd;
        mrtds_given = put w.tds.mrtds_given t (Some mrtd);
        sessions = put w.tds.sessions t session;
        mig_epochs = put w.tds.mig_epochs t 1;
      }

last_imported_kept : (m : Machine) (w : World) (n : ℕ) → Lawful m w → Lawful m (record w { key_table = record (w.key_table) { last_imported = n } })
last_imported_kept m w n l = record {
  size = l.size;
  pages = l.pages;
  tds = l.tds;
  lists = l.lists;
  tree = l.tree;
  keys = record { in_range = l.keys.in_range; owner = l.keys.owner; owned = l.keys.owned; flushed = l.keys.flushed };
  beginnings = l.beginnings;
  counts = l.counts;
  streams = l.streams;
  sessions = sessions_of w.tds _ l.sessions.last_exported (session_at w.tds w.key_table l.sessions);
}

only_kind : (b : Bool) → list_any (λ z. z) (b ∷ []) ≡ true → b ≡ true
only_kind true e = refl
only_kind false e = cc

-- of the first type at most eight are said
few_expected : (h : ClearHeader) → IsInForm h → list_any (λ k. k == h.kind) (0 ∷ []) ≡ true → h.info ≤ 8
few_expected h f k =
    let is : h.kind ≡ 0 = sym (eqb-true 0 h.kind (only_kind (0 == h.kind) k)) in
    subst (λ (n : ℕ). h.info ≤ most_info n) is (f.info (λ three. (let no : 0 ≡ 3 = sym is ∙ three in cc)))

pub import_immutable-keeps : (m : Machine) (b : Option Incoming) (t slot : ℕ) → RowKeeps m (import_immutable m b t slot)
import_immutable-keeps m b t slot = record {
  act = λ w l ps.
      let x : Input = input_in b in
      let f : IsInForm x.header = input_form b (search) in
      let td : TdPassed w t first_ops = search in
      let n : ℕ = x.header.info in
      let w1 : World = record w { tds = record (w.tds) { vps_expected = put w.tds.vps_expected t n } } in
      let new = first_new (w.tds.ops t) td.op in
      let no_vps : length (w.tds.vps t) ≤ 0 = subst (λ (s : OpState). length (w.tds.vps t) ≤ most_vps s (w.tds.vps_expected t)) new (l.sessions.vps t) in
      let l1 : Lawful m w1 = expected_kept m w t l td.built n (few_expected x.header f (search)) no_vps in
      let few : 0 < length (w.tds.streams t) = ltb-true _ _ (search) in
      let l2 = begun_kept m w1 t l1 td.built x.header.session x.words f.session few no_vps in
      let l3 : Lawful m (begin_import t x w) = last_imported_kept m _ x.header.session l2 in
      let alive = td_alive td in
      let none = l.streams.uncounted t (stream_page w t 0) alive new (stream_among (w.tds.streams t) 0 few) in
      counted m (begin_import t x w) t 0 l3 (record { kind = alive.kind; life = alive.life }) (λ e. let no : op.MemoryImport ≡ op.Uninitialized = rw (same_self t) at e in cc) few (omega (arith, none));
  to_tell = λ w. refl;
}

-- IMPORT.MEM: each page is taken, or is there already. What its row has asked: of its TD and its bundle, and of each page
pub record TakePassed (m : Machine) (x : Input) (w : World) (t page : ℕ) (count : Option ℕ) : Type 0 where
  pub td : TdPassed w t filling_ops
  pub few : x.header.stream < length (w.tds.streams t)
  pub pages : AllMayTake w t [] (arrivals x.header.gpa page x.words (page_count count))
  pub room : stream_counter w t x.header.stream < 2 ^ 32 - 1
  pub in_machine : page + page_count count ≤ m.pages
  pub private : (x.header.kind == 3) ≡ true
  pub fits : x.header.gpa + 4096 * page_count count ≤ 2 ^ 47

pub kind_three : (h : ClearHeader) → list_any (λ k. k == h.kind) (3 ∷ []) ≡ true → h.kind ≡ 3
kind_three h k = sym (eqb-true 3 h.kind (only_kind (3 == h.kind) k))

-- the run of pages is in the machine, and the run of GPAs below 2^47
run_in : (m : Machine) (page t : ℕ) (count : Option ℕ) → page < m.pages → Passes (count_argument 4 count) → Passes (pages_argument m 4 page t count)
    → page + page_count count ≤ m.pages
run_in m page t None few a b = omega (arith, few)
run_in m page t (Some n) few a b =
    let low : nat_le n most_pages ≡ true = le-leb n most_pages (range_of n most_pages a.0).1 in
    rw low (leb-true _ _ b.0)

gpas_fit : (h : ClearHeader) (count : Option ℕ) → IsInForm h → h.kind ≡ 3 → Passes (count_argument 4 count) → Passes (list_says h count)
    → h.gpa + 4096 * page_count count ≤ 2 ^ 47
gpas_fit h None f k a b =
    let most : h.gpa ≤ 2 ^ 47 - 1 = subst (λ (n : ℕ). h.gpa ≤ most_gpa n) k f.gpa in let whole = f.aligned in omega (arith, most, whole)
gpas_fit h (Some n) f k a b =
    let low : nat_le n most_pages ≡ true = le-leb n most_pages (range_of n most_pages a.0).1 in
    let end : h.gpa + 4096 * h.info ≤ 2 ^ 47 = f.list (rw (b.0, k) refl) in
    let same : h.info ≡ n = eqb-true _ n b.1.0 in
    rw low (omega (arith, end, same))

pub take_passed : (m : Machine) (b : Option Incoming) (w : World) (t slot page : ℕ) (count : Option ℕ) → Passes ((import_pages m b t slot page count).items w)
    → TakePassed m (input_in b) w t page count
take_passed m b w t slot page count ps =
    let x : Input = input_in b in
    let h : ClearHeader = x.header in
    let pages : List Arrival = arrivals h.gpa page x.words (page_count count) in
    let body : List (Item Reply) = import_conditions w t x pages in
    let said : List (Item Reply) = input_row x slot (3 ∷ []) ++ (list_says h count ++ body) in
    let behind_count : List (Item Reply) = apart_argument 3 page t ∷ (pages_argument m 4 page t count ++ said) in
    let counted = passes_behind (count_argument 4 count) behind_count ps.1.1 in
    let input = passes_behind (pages_argument m 4 page t count) said counted.1 in
    let head = passes_behind (list_says h count) body input.1.1.1 in
    let form : IsInForm h = input_form b input.1.0 in
    let k : h.kind ≡ 3 = kind_three h input.1.1.0 in
    let argument = passes_first (count_argument 4 count) behind_count ps.1.1 in
    record {
      td = record { root = head.0; life = head.1.0; built = head.1.1.0; op = head.1.1.1.0 };
      few = ltb-true _ _ head.1.1.1.1.0;
      pages = (all_may_take w t [] pages (tag_holds x ∷ []) head.1.1.1.1.1.1.1.1).0;
      room = has_room h.counter (stream_counter w t h.stream) head.1.1.1.1.1.1.1.0;
      in_machine = run_in m page t count (ltb-true page m.pages ps.1.0) argument (passes_first (pages_argument m 4 page t count) said counted.1);
      private = eq-eqb h.kind 3 k;
      fits = gpas_fit h count form k argument (passes_first (list_says h count) body input.1.1.1);
    }

-- of each page: it is in the machine, and its GPA below 2^47
pub record IsInRange (m : Machine) (a : Arrival) : Type 0 where
  pub page : a.page < m.pages
  pub gpa : number_at 0 a.gpa * level_size 0 < 2 ^ 47

pub all_in_range : (m : Machine) (gpa page : ℕ) (words : ℕ → ℕ) (n : ℕ) → page + n ≤ m.pages → gpa + 4096 * n ≤ 2 ^ 47
    → EachIs (IsInRange m) (arrivals gpa page words n)
all_in_range m gpa page words zero few low = tt
all_in_range m gpa page words (suc n) few low = (
  record { page = omega (arith, few); gpa = lt_of_le_of_lt (div-mul-le_self gpa (level_size 0)) (omega (arith, low)) },
  all_in_range m (gpa + 4096) (page + 1) (λ i. words (512 + i)) n (omega (arith, few)) (omega (arith, low)),
)

-- what holds from page to page
pub record MayFill (m : Machine) (t : ℕ) (w : World) : Type 0 where
  pub lawful : Lawful m w
  pub alive : IsAlive w.pages w.tds t
  pub built : (length (w.tds.controls t) == 2) ≡ true
  pub op : list_any (λ b. op_number b == op_number (w.tds.ops t)) filling_ops ≡ true

-- no page that is taken is a TDR page
module _ (t : ℕ) (w : World) (alive : IsAlive w.pages w.tds t) (locked : List ℕ) (a : Arrival) (may : MayTake w t locked a) where
  page_alive : (s : EntryState) → (entry_at w t 0 a.gpa).state ≡ s → let v = fill_page t a.gpa a.page a.words s w in IsAlive v.pages v.tds t
  page_alive entry.Free is = record {
    kind = by_test (t == a.page)
        (λ y. absurd (let no : kind.Tdr ≡ kind.Nda = sym alive.kind ∙ (ap w.pages.kinds (eqb-true t a.page y) ∙ host_kind _ (may.host is)) in cc))
        (λ n. rw n alive.kind);
    life = alive.life;
  }
  page_alive _ is = record { kind = alive.kind; life = alive.life }

  pub taken_alive : IsAlive (take_in t a w).pages (take_in t a w).tds t
  taken_alive = let b = page_alive (entry_at w t 0 a.gpa).state refl in record { kind = b.kind; life = b.life }

module _ (m : Machine) (t : ℕ) (w : World) (h : MayFill m t w) (locked : List ℕ) (a : Arrival) (may : MayTake w t locked a) (fit : IsInRange m a) where
  abbrev Filled : EntryState → Type 0
  Filled s = MayFill m t (fill_page t a.gpa a.page a.words s w)

  taken_here : (entry_at w t 0 a.gpa).state ≡ entry.Free → Filled entry.Free
  taken_here is =
      let host = host_kind _ (may.host is) in
      let l : Lawful m w = h.lawful in
      record {
        lawful = untouched m (map_page a.page kind.Reg entry.Mapped t 0 (number_at 0 a.gpa) w) _ refl
            (map_kept m w a.page t 0 (number_at 0 a.gpa) entry.Mapped host fit.page l h.alive.kind h.built (ap is_free is) may.above refl refl refl
            (lit≤ tt) fit.gpa);
        alive = page_alive t w h.alive locked a may entry.Free is;
        built = h.built;
        op = h.op;
      }

  filled : (s : EntryState) → (entry_at w t 0 a.gpa).state ≡ s → Filled s
  filled entry.Free is = taken_here is
  filled _ is = record { lawful = untouched m w _ refl h.lawful; alive = record { kind = h.alive.kind; life = h.alive.life }; built = h.built; op = h.op }

  pub fills_on : MayFill m t (take_in t a w)
  fills_on =
      let s : EntryState = (entry_at w t 0 a.gpa).state in
      let f : Filled s = filled s refl in
      record {
        lawful = untouched m
            (fill_page t a.gpa a.page a.words s w) _ refl f.lawful;
        alive = record { kind = f.alive.kind; life = f.alive.life };
        built = f.built;
        op = f.op;
      }

filling_begun : (s : OpState) → list_any (λ b. op_number b == op_number s) filling_ops ≡ true → s ≢ op.Uninitialized
filling_begun s h = begun_of filling_ops s refl h

pub import_pages-keeps : (m : Machine) (b : Option Incoming) (t slot page : ℕ) (count : Option ℕ) → RowKeeps m (import_pages m b t slot page count)
import_pages-keeps m b t slot page count = record {
  act = λ w l ps.
      let x : Input = input_in b in
      let pages : List Arrival = arrivals x.header.gpa page x.words (page_count count) in
      let p = take_passed m b w t slot page count ps in
      let h : MayFill m t (take_each t pages w) =
      each_taken t (IsInRange m) (MayFill m t) (λ v locked a h may fit. fills_on m t v h locked a may fit) pages w []
      (arrivals_apart x.header.gpa page x.words (page_count count)) p.pages (all_in_range m x.header.gpa page x.words (page_count count) p.in_machine p.fits)
      (record { lawful = l; alive = td_alive p.td; built = p.td.built; op = p.td.op }) in
      let same : TakenAs w (take_each t pages w) ≡ take_each t pages w = sym (takes_leave t pages w) in
      counted m (take_each t pages w) t x.header.stream h.lawful h.alive (filling_begun ((take_each t pages w).tds.ops t) h.op)
      (subst (λ (v : World). x.header.stream < length (v.tds.streams t)) same p.few)
      (subst (λ (v : World). stream_counter v t x.header.stream < 2 ^ 32 - 1) same p.room);
  to_tell = λ w.
      (let x : Input = input_in b in ap (λ (v : World). v.outgoing.to_tell) (takes_leave t (arrivals x.header.gpa page x.words (page_count count)) w));
}

-- IMPORT.TRACK
token_kept : (m : Machine) (w : World) (t epoch : ℕ) (s : OpState) → Lawful m w → (length (w.tds.controls t) == 2) ≡ true → w.tds.ops t ≢ op.Uninitialized → is_exporting s ≡ false → 1 ≤ length (w.tds.streams t) → length (w.tds.vps t) ≤ most_vps s (w.tds.vps_expected t) → s ≢ op.Uninitialized → epoch < 2 ^ 32
    → Lawful m (set_op t s (set_mig_epoch t epoch w))
token_kept m w t epoch s l built begun other some few still small = built_kept m w t built l tds' (same_shape m w t built l tds' refl refl refl refl refl refl) (λ x. refl) refl l.tds.epoch
    (λ x. by_test (x == t) (λ y n. subst (λ (z : ℕ). 1 ≤ w.tds.epochs z) (sym (eqb-true x t y)) (l.tds.epoch_begun t begun)) (λ y n. l.tds.epoch_begun x (rw y at n)))
    (λ x n. rw n refl)
    (λ x h. by_test (x == t) (λ y. (let same : x ≡ t = eqb-true x t y in rw y (h.0, small, λ e. (let no : true ≡ false = sym e ∙ other in cc), λ e. rw same some, rw same few))) (λ n. rw n h))
    (λ x. by_test (x == t) (λ y e. absurd (still (rw y at e))) (λ n e. rw n at e))
  where
    tds' : Tds
    tds' = record (w.tds) { ops = put w.tds.ops t s; mig_epochs = put w.tds.mig_epochs t epoch }

pub import_token-keeps : (m : Machine) (b : Option Incoming) (t slot : ℕ) → RowKeeps m (import_token m b t slot)
import_token-keeps m b t slot = record {
  act = λ w l ps.
      let x : Input = input_in b in
      let f : IsInForm x.header = input_form b (search) in
      let td : TdPassed w t (import_token_ops (is_start x.header)) = search in
      let alive = td_alive td in
      let begun = token_begun (is_start x.header) (w.tds.ops t) td.op in
      let w1 : World = set_op t (op_then (is_start x.header) (w.tds.ops t)) (set_mig_epoch t x.header.epoch w) in
      counted m w1 t 0 (token_kept m w t x.header.epoch (op_then (is_start x.header) (w.tds.ops t)) l td.built begun.0 begun.1 (l.sessions.import_stream t begun.2)
      (token_vps (is_start x.header) (w.tds.ops t) (w.tds.vps_expected t) (length (w.tds.vps t)) (l.sessions.vps t) (l.tds.vps_few t)) begun.3 f.epoch)
      (record { kind = alive.kind; life = alive.life }) (λ e. begun.3 (rw (same_self t) at e)) (l.sessions.import_stream t begun.2) (has_room x.header.counter (stream_counter w t 0) (search));
  to_tell = λ w. refl;
}

-- IMPORT.STATE.TD: RTMRs of a TD that has its two TDCX pages
rtmrs_given : (m : Machine) (w : World) (t : ℕ) (ws : ℕ → ℕ) → Lawful m w → (length (w.tds.controls t) == 2) ≡ true → Lawful m (give_rtmrs t ws w)
rtmrs_given m w t ws l built = record {
  size = l.size;
  pages = l.pages;
  tds = l.tds;
  lists = l.lists;
  tree = l.tree;
  keys = l.keys;
  beginnings = record { is_new = λ x a n. new_kept w.tds w.tds w.hidden.rtmrs (give_rtmrs t ws w).hidden.rtmrs x (rw (built_other w.tds.controls t x built n) refl) (l.beginnings.is_new x a n) };
  counts = l.counts;
  streams = l.streams;
  sessions = l.sessions;
}

pub import_td-keeps : (m : Machine) (b : Option Incoming) (t slot : ℕ) → RowKeeps m (import_td m b t slot)
import_td-keeps m b t slot = record {
  act = λ w l ps.
      let x : Input = input_in b in
      let td : TdPassed w t td_state_ops = search in
      let alive = td_alive td in
      let w1 : World = give_rtmrs t x.words w in
      let l1 : Lawful m w1 = rtmrs_given m w t x.words l td.built in
      let begun = l.tds.epoch_begun t (begun_of td_state_ops (w.tds.ops t) refl td.op) in
      let some = l.sessions.import_stream t (td_state_importing (w.tds.ops t) td.op) in
      counted m (set_op t op.StateImport w1) t 0 (op_kept m w1 t td.built l1 op.StateImport begun (λ e. cc) (λ e. some)
      (td_state_vps (w.tds.ops t) (w.tds.vps_expected t) (length (w.tds.vps t)) td.op (l.sessions.vps t)) (λ e. cc))
      (record { kind = alive.kind; life = alive.life }) (λ e. let no : op.StateImport ≡ op.Uninitialized = rw (same_self t) at e in cc) some (has_room x.header.counter (stream_counter w t 0) (search));
  to_tell = λ w. refl;
}

-- IMPORT.STATE.VP
pub import_vp-keeps : (m : Machine) (b : Option Incoming) (t v slot : ℕ) → RowKeeps m (import_vp m b t v slot)
import_vp-keeps m b t v slot = record {
  act = λ w l ps.
      let x : Input = input_in b in
      let td : TdPassed w t vp_state_ops = search in
      counted m _ t 0 (untouched m w _ refl l) (td_alive td) (begun_of vp_state_ops (w.tds.ops t) refl td.op)
      (l.sessions.import_stream t (vp_state_importing (w.tds.ops t) td.op)) (has_room x.header.counter (stream_counter w t 0) (search));
  to_tell = λ w. refl;
}

-- IMPORT.COMMIT, IMPORT.END, IMPORT.ABORT, and EXPORT.ABORT by a token
pub commit_import-keeps : (m : Machine) (t : ℕ) → RowKeeps m (commit_import m t)
commit_import-keeps m t = record {
  act = λ w l ps.
      let td : TdPassed w t commit_ops = search in
      op_kept m (note_commit t w) t td.built (untouched m w _ refl l) op.LiveImport (l.tds.epoch_begun t (begun_of commit_ops (w.tds.ops t) refl td.op)) (λ e. cc)
      (λ e. l.sessions.import_stream t (commit_importing (w.tds.ops t) td.op)) (l.tds.vps_few t) (λ e. cc);
  to_tell = λ w. refl;
}

pub end_import-keeps : (m : Machine) (t : ℕ) → RowKeeps m (end_import m t)
end_import-keeps m t = record {
  act = λ w l ps.
      let td : TdPassed w t late_ops = search in
      op_kept m w t td.built l op.Runnable (l.tds.epoch_begun t (begun_of late_ops (w.tds.ops t) refl td.op)) (λ e. cc) (λ e. cc) (l.tds.vps_few t) (λ e. cc);
  to_tell = λ w. refl;
}

pub abort_import-keeps : (m : Machine) (t slot : ℕ) → RowKeeps m (abort_import m t slot)
abort_import-keeps m t slot = record {
  act = λ w l ps.
      let td : TdPassed w t given_up_ops = search in
      untouched m (set_op t op.FailedImport w) _ refl (op_kept m w t td.built l op.FailedImport (l.tds.epoch_begun t (begun_of given_up_ops (w.tds.ops t) refl td.op)) (λ e. cc)
      (λ e. l.sessions.import_stream t (given_up_importing (w.tds.ops t) td.op)) (l.tds.vps_few t) (λ e. cc));
  to_tell = λ w. refl;
}

pub abort_by_token-keeps : (m : Machine) (b : Option Incoming) (t slot : ℕ) → RowKeeps m (abort_by_token m b t slot)
abort_by_token-keeps m b t slot = record {
  act = λ w l ps.
      let x : Input = input_in b in
      let td : TdPassed w t sent_ops = search in
      op_kept m w t td.built l op.Runnable (l.tds.epoch_begun t (begun_of sent_ops (w.tds.ops t) refl td.op)) (λ e. cc) (λ e. cc) (l.tds.vps_few t) (λ e. cc);
  to_tell = λ w. refl;
}
