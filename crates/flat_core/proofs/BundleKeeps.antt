-- Each row that makes a bundle keeps what every world keeps.
use Rattle.std.proofs.Common.{lit<, lit≤, ◌≡◌, ◌≢◌, refl, sym, ◌∙◌, subst, ap, ℕ, zero, suc, ◌+◌, ◌-◌, ◌*◌, ◌%◌, ◌^◌, ◌<◌, ◌≤◌, List, length, get_or, Bool, true, false, not, if◌then◌else◌, ◌==◌, nat_lt, arith}
use Rattle.std.specs.Prelude.{Option}
use Rattle.std.specs.List.{list_any, sum_by}
use Rattle.std.proofs.lemmas.Bool.{eqb-true, eqb-false, ne_eqb, and_parts, ltb-true}
use Rattle.td_words.specs.declared.names.PageKind.TheVariants as kind
use Rattle.td_words.specs.declared.names.OpState.{OpState}
use Rattle.td_words.specs.declared.names.OpState.TheVariants as op
use Rattle.td_words.specs.declared.names.EntryState.TheVariants as entry
use Rattle.td_words.specs.declared.machines.Machine.{Machine}
use Rattle.td_words.specs.NameNumber.{op_number}
use Rattle.td_words.specs.Packing.{Entry, is_lawful_entry, is_exported}
use Rattle.flat_core.specs.World.{World, Pages, Tds, Streams, put}
use Rattle.flat_core.specs.Row.{Passes}
use Rattle.flat_core.specs.Locks.{one_if}
use Rattle.flat_core.specs.Tree.{number_at, entry_at}
use Rattle.flat_core.specs.Exports.{is_dirty, entries_where}
use Rattle.flat_core.specs.PageLists.{most_pages, page_count, gpas_from}
use Rattle.flat_core.specs.Sessions.{stream_page, stream_counter, unrestored_count, About, make_bundle, put_all, begin_session, set_mig_epoch, note_td_export, note_vp_export}
use Rattle.flat_core.specs.ExportRows.{abortable_ops}
use Rattle.flat_core.specs.BundleRows.{session_ops, paused_ops, export_immutable, about_pages, words_of_pages, export_page, export_pages, start_epoch, track_export, export_token, export_td, export_vp}
use Rattle.flat_core.specs.Lawful.{IsAlive, all_differ, LawfulStreams, Lawful, RowKeeps, is_free, is_node, is_exporting}
use Rattle.flat_core.proofs.Tests.{by_test, same_self, put_here}
use Rattle.flat_core.proofs.Exports.{IsCounted, counts_of, counted_still, counted_on, none_dirty_of}
use Rattle.flat_core.proofs.Parts.{untouched, streams_kept, session_at, sessions_of, same_shape, session_kept, built_kept, op_kept}
use Rattle.flat_core.proofs.Streams.{stream_owned, sum_same, sum_without, sum_zero, sum_raised, page_among, stream_among, none_elsewhere}
use Rattle.flat_core.proofs.PageLists.{list_fits, gpas_apart, MayExport, each_exported, made_first, made_may, each_leaves}
use Rattle.flat_core.proofs.EntryStates.{with_entry, counted_entry_kept, moved, others_counted}
use Rattle.flat_core.proofs.Numbers.{few_where}
use Rattle.flat_core.proofs.Ranges.{begun_of, paused_exporting, abortable_exporting, can_export}
use Rattle.flat_core.proofs.Passed.{TdPassed, td_alive, export_passed}

-- one more at a page, where there is room; and a bundle more makes room for as many pages as it may have
one_more : (f g : ℕ → ℕ) → ((q : ℕ) → f q ≤ most_pages * g q) → (p : ℕ) → f p + 1 ≤ most_pages * g p → (q : ℕ) → put f p (f p + 1) q ≤ most_pages * g q
one_more f g e p room q = by_test (q == p) (λ y. (let same = ap g (eqb-true q p y) in rw y (omega (arith, room, same)))) (λ n. rw n (e q))

more_above : (f g : ℕ → ℕ) → ((q : ℕ) → f q ≤ most_pages * g q) → (p q : ℕ) → f q ≤ most_pages * put g p (g p + 1) q
more_above f g e p q = by_test (q == p) (λ y. (let h = e q in let same = ap g (eqb-true q p y) in rw y (omega (arith, h, same)))) (λ n. rw n (e q))

more_below : (f : ℕ → ℕ) → ((q : ℕ) → f q < 2 ^ 32) → (p : ℕ) → f p < 2 ^ 32 - 1 → (q : ℕ) → put f p (f p + 1) q < 2 ^ 32
more_below f e p room q = by_test (q == p) (λ y. rw y (omega (arith, room))) (λ n. rw n (e q))

-- a page that is no stream of a TD that is UNINITIALIZED, as one of another TD's
abbrev pub IsOfBegun : Pages → Tds → ℕ → Type 0
IsOfBegun pages tds p = (x s : ℕ) → IsAlive pages tds x → tds.ops x ≡ op.Uninitialized → list_any (λ q. q == s) (tds.streams x) ≡ true → (s == p) ≡ false

pub of_begun : (m : Machine) (w : World) → Lawful m w → (t k : ℕ) → IsAlive w.pages w.tds t → w.tds.ops t ≢ op.Uninitialized → k < length (w.tds.streams t) → IsOfBegun w.pages w.tds (stream_page w t k)
of_begun m w l t k alive begun few x s a new among = by_test (s == stream_page w t k)
    (λ y. absurd (let mine = (stream_owned m w l t k alive few).owner in
    let its = (page_among w.pages x kind.Migsc (w.tds.streams x) s (l.tds.streams x a) among).owner in
    let same : x ≡ t = sym its ∙ (ap w.pages.owners (eqb-true s (stream_page w t k) y) ∙ mine) in
    begun (ap w.tds.ops (sym same) ∙ new)))
    (λ n. n)

exporting_begun : (s : OpState) → is_exporting s ≡ true → s ≢ op.Uninitialized
exporting_begun s e new = let no : true ≡ false = sym e ∙ ap is_exporting new in cc

-- a bundle that is made: its stream counts it
pub counted_bundle : (m : Machine) (w : World) (p : ℕ) → Lawful m w → IsOfBegun w.pages w.tds p → w.streams.counters p < 2 ^ 32 - 1 → Lawful m (record w { streams = record (w.streams) { counters = put w.streams.counters p (w.streams.counters p + 1) } })
counted_bundle m w p l begun room = record {
  size = l.size;
  pages = l.pages;
  tds = l.tds;
  lists = l.lists;
  tree = l.tree;
  keys = l.keys;
  beginnings = l.beginnings;
  counts = counts_of m.pages w.pages w.tds _ (λ x a. (l.counts.dirtied x a, l.counts.unrestored x a));
  streams = record {
    counter = more_below w.streams.counters l.streams.counter p room;
    cleaned = more_above w.streams.cleaned w.streams.counters l.streams.cleaned p;
    first_exports = more_above w.streams.first_exports w.streams.counters l.streams.first_exports p;
    uncounted = λ x s a new among. rw (begun x s a new among) (l.streams.uncounted x s a new among);
  };
  sessions = l.sessions;
}

bundle_kept : (m : Machine) (w : World) (t slot : ℕ) (a : About) (payload : List ℕ) → Lawful m w → IsAlive w.pages w.tds t → w.tds.ops t ≢ op.Uninitialized → a.stream < length (w.tds.streams t)
    → stream_counter w t a.stream < 2 ^ 32 - 1 → Lawful m (make_bundle t slot a payload w)
bundle_kept m w t slot a payload l alive begun few room =
    untouched m _ (make_bundle t slot a payload w) refl (counted_bundle m w (stream_page w t a.stream) l (of_begun m w l t a.stream alive begun few) room)

-- a stream of one TD isn't one of another's
stream_apart : (m : Machine) (w : World) → Lawful m w → (t x q : ℕ) → IsAlive w.pages w.tds t → IsAlive w.pages w.tds x → (x == t) ≡ false → list_any (λ p. p == q) (w.tds.streams x) ≡ true → list_any (λ p. p == q) (w.tds.streams t) ≡ false
stream_apart m w l t x q alive a n h =
    none_elsewhere w x q t (page_among w.pages x kind.Migsc (w.tds.streams x) q (l.tds.streams x a) h).owner (ne_eqb t x (λ e. eqb-false x t n (sym e))) (w.tds.streams t) (l.tds.streams t alive)

-- EXPORT.STATE.IMMUTABLE: no entry of the TD is exported, and nothing is counted yet
module _ (m : Machine) (w : World) (t : ℕ) (l : Lawful m w) (alive : IsAlive w.pages w.tds t) (built : (length (w.tds.controls t) == 2) ≡ true) (begun : w.tds.ops t ≢ op.Uninitialized)
    (few : 0 < length (w.tds.streams t)) (restored : unrestored_count w t ≡ 0) (room : w.key_table.last_exported < 65535) where
  abbrev now : World
  now = begin_session t w

  put_all_here : (f : ℕ → ℕ) → sum_by (put_all f (w.tds.streams t) 0) (w.tds.streams t) ≡ 0
  put_all_here f = sum_zero (put_all f (w.tds.streams t) 0) (w.tds.streams t) (λ q h. rw h refl)

  put_all_there : (f : ℕ → ℕ) (x : ℕ) → (x == t) ≡ false → IsAlive w.pages w.tds x → sum_by (put_all f (w.tds.streams t) 0) (w.tds.streams x) ≡ sum_by f (w.tds.streams x)
  put_all_there f x n a = sum_same (put_all f (w.tds.streams t) 0) f (w.tds.streams x) (λ q h. (let apart = stream_apart m w l t x q alive a n h in rw apart refl))

  put_all_each : (f g : ℕ → ℕ) → ((q : ℕ) → f q ≤ most_pages * g q) → (q : ℕ) → put_all f (w.tds.streams t) 0 q ≤ most_pages * put_all g (w.tds.streams t) 0 q
  put_all_each f g e q = by_test (list_any (λ p. p == q) (w.tds.streams t)) (λ y. rw y (lit≤ tt)) (λ n. rw n (e q))

  begun_here : IsCounted m.pages w.pages now.tds now.streams t
  begun_here =
      let exported : entries_where is_exported m.pages w.pages w.tds t ≡ 0 = l.counts.unrestored t alive ∙ restored in
      let dirty : entries_where is_dirty m.pages w.pages w.tds t ≡ 0 = none_dirty_of m.pages w.pages w.tds t exported in
      let cleaned = put_all_here w.streams.cleaned in
      let first = put_all_here w.streams.first_exports in
      let dirtied = put_here w.tds.dirtied t 0 in
      let unrestored = put_here w.tds.unrestored t 0 in
      (omega (arith, dirty, cleaned, dirtied), omega (arith, exported, first, unrestored))

  begun_there : (x : ℕ) → (x == t) ≡ false → IsAlive w.pages w.tds x → IsCounted m.pages w.pages now.tds now.streams x
  begun_there x n a = counted_on m.pages w.pages now.tds w.streams now.streams x (put_all_there w.streams.cleaned x n a) (put_all_there w.streams.first_exports x n a)
      (counted_still m.pages w.pages w.pages w.tds now.tds w.streams x (rw n refl) (λ f of p. refl) (l.counts.dirtied x a, l.counts.unrestored x a))

  begun_before : (x : ℕ) → now.tds.ops x ≡ op.Uninitialized → w.tds.ops x ≡ op.Uninitialized
  begun_before x = by_test (x == t) (λ y e. absurd (let no : op.LiveExport ≡ op.Uninitialized = rw y at e in cc)) (λ n e. rw n at e)

  session_begun : Lawful m (begin_session t w)
  session_begun = session_kept m w t built l now.tds now.streams (w.key_table.last_exported + 1) (same_shape m w t built l now.tds refl refl refl refl refl refl) refl l.tds.epoch
      (λ x. by_test (x == t) (λ y n. subst (λ (z : ℕ). 1 ≤ w.tds.epochs z) (sym (eqb-true x t y)) (l.tds.epoch_begun t begun)) (λ y n. l.tds.epoch_begun x (rw y at n)))
      (λ x n. rw n refl)
      (counts_of m.pages w.pages now.tds now.streams (λ x a. by_test (x == t)
      (λ y. subst (λ (z : ℕ). IsCounted m.pages w.pages now.tds now.streams z) (sym (eqb-true x t y)) begun_here)
      (λ n. begun_there x n (record { kind = a.kind; life = a.life }))))
      (record {
        counter = λ q. by_test (list_any (λ p. p == q) (w.tds.streams t)) (λ y. rw y (lit< tt)) (λ n. rw n (l.streams.counter q));
        cleaned = put_all_each w.streams.cleaned w.streams.counters l.streams.cleaned;
        first_exports = put_all_each w.streams.first_exports w.streams.counters l.streams.first_exports;
        uncounted = λ x s a new among. by_test (list_any (λ p. p == s) (w.tds.streams t))
            (λ y. rw y refl)
            (λ n. rw n (l.streams.uncounted x s (record { kind = a.kind; life = a.life }) (begun_before x new) among));
      })
      (sessions_of now.tds now.key_table (omega (arith, room)) (λ x. by_test (x == t)
      (λ y. (let same : x ≡ t = eqb-true x t y in rw y (omega (arith, room), lit< tt, λ e. (lit≤ tt, rw same few), λ e. cc, l.tds.vps_few x)))
      (λ n. rw n (session_at w.tds w.key_table l.sessions x))))

  first_counter : stream_counter now t 0 ≡ 0
  first_counter = rw (stream_among (w.tds.streams t) 0 few) refl

pub export_immutable-keeps : (m : Machine) (t slot : ℕ) → RowKeeps m (export_immutable m t slot)
export_immutable-keeps m t slot = record {
  act = λ w l ps.
      let td : TdPassed w t session_ops = search in
      let alive = td_alive td in
      let begun = begun_of session_ops (w.tds.ops t) refl td.op in
      let few : 0 < length (w.tds.streams t) = ltb-true _ _ (search) in
      let restored : unrestored_count w t ≡ 0 = eqb-true _ 0 (search) in
      let room : w.key_table.last_exported < 65535 = ltb-true _ _ (search) in
      let none : stream_counter (begin_session t w) t 0 ≡ 0 = first_counter m w t l alive td.built begun few restored room in
      bundle_kept m (begin_session t w) t slot _ _ (session_begun m w t l alive td.built begun few restored room)
      (record { kind = alive.kind; life = alive.life }) (λ e. let no : op.LiveExport ≡ op.Uninitialized = rw (same_self t) at e in cc) few (omega (arith, none));
  to_tell = λ w. refl;
}

-- EXPORT.MEM: an entry is exported, as it was before in the session or for the first time, and its stream counts which
abbrev raised : Streams → (p : ℕ) → (again : Bool) → Streams
raised s p again = record {
  counters = s.counters;
  cleaned = if again then put s.cleaned p (s.cleaned p + 1) else s.cleaned;
  first_exports = if again then s.first_exports else put s.first_exports p (s.first_exports p + 1);
}

raised_lawful : (pages : Pages) (tds : Tds) (s : Streams) (p : ℕ) (again : Bool) → LawfulStreams pages tds s → s.cleaned p + 1 ≤ most_pages * s.counters p
    → s.first_exports p + 1 ≤ most_pages * s.counters p → LawfulStreams pages tds (raised s p again)
raised_lawful pages tds s p true l clean first = record { counter = l.counter; cleaned = one_more s.cleaned s.counters l.cleaned p clean; first_exports = l.first_exports; uncounted = l.uncounted }
raised_lawful pages tds s p false l clean first = record { counter = l.counter; cleaned = l.cleaned; first_exports = one_more s.first_exports s.counters l.first_exports p first; uncounted = l.uncounted }

-- what is counted on the stream's TD, and on another
raised_here : (s : Streams) (ps : List ℕ) (k : ℕ) (again : Bool) → k < length ps → all_differ ps ≡ true
    → (sum_by (raised s (get_or ps k 0) again).cleaned ps ≡ sum_by s.cleaned ps + one_if again) × (sum_by (raised s (get_or ps k 0) again).first_exports ps ≡ sum_by s.first_exports ps + one_if (not again))
raised_here s ps k true few d = (sum_raised s.cleaned ps k few d, omega arith)
raised_here s ps k false few d = (omega arith, sum_raised s.first_exports ps k few d)

raised_there : (s : Streams) (p : ℕ) (ps : List ℕ) (again : Bool) → list_any (λ q. q == p) ps ≡ false
    → (sum_by (raised s p again).cleaned ps ≡ sum_by s.cleaned ps) × (sum_by (raised s p again).first_exports ps ≡ sum_by s.first_exports ps)
raised_there s p ps true none = (sum_without s.cleaned p _ ps none, refl)
raised_there s p ps false none = (refl, sum_without s.first_exports p _ ps none)

-- a mark that isn't 0
marked : (e : Entry) (mark : ℕ) → mark < 2 ^ 32 → 1 ≤ mark → is_lawful_entry e ≡ true → is_lawful_entry (record { state = entry.ExportedBlockedW; page = e.page; mark = mark }) ≡ true
marked e mark small begun lawful =
    let page = (and_parts (nat_lt e.page 1024) _ lawful).0 in
    let fits : nat_lt mark (2 ^ 32) ≡ true = grind arith in
    let some : (mark == 0) ≡ false = ne_eqb mark 0 (λ none. omega (arith, begun, none)) in
    rw (page, fits, some) refl

module _ (m : Machine) (w : World) (t number k : ℕ) (l : Lawful m w) (alive : IsAlive w.pages w.tds t) (exporting : is_exporting (w.tds.ops t) ≡ true) (few : k < length (w.tds.streams t))
    (used : is_free (w.tds.entries t 0 number).state ≡ false) (low : is_node (w.tds.entries t 0 number).state ≡ false) (dirt : is_dirty (w.tds.entries t 0 number).state ≡ is_exported (w.tds.entries t 0 number).state)
    (clean : w.streams.cleaned (get_or (w.tds.streams t) k 0) + 1 ≤ most_pages * w.streams.counters (get_or (w.tds.streams t) k 0)) (first : w.streams.first_exports (get_or (w.tds.streams t) k 0) + 1 ≤ most_pages * w.streams.counters (get_or (w.tds.streams t) k 0)) where
  abbrev old : Entry
  old = w.tds.entries t 0 number

  abbrev p : ℕ
  p = get_or (w.tds.streams t) k 0

  abbrev new : Entry
  new = record { state = entry.ExportedBlockedW; page = old.page; mark = w.tds.mig_epochs t }

  abbrev after : Tds
  after = with_entry w t 0 number new w.tds.dirtied w.tds.unrestored

  abbrev streams : Streams
  streams = raised w.streams p (is_exported old.state)

  exported_here : IsCounted m.pages w.pages after streams t
  exported_here =
      let sums = raised_here w.streams (w.tds.streams t) k (is_exported old.state) few (l.tds.streams_differ t) in
      let many = few_where m w l t alive is_exported (λ s h. h) in (
        dirty (is_exported old.state) _ _ _ _ _ (ap one_if dirt) (moved m w t number new w.tds.dirtied w.tds.unrestored l alive used is_dirty) (l.counts.dirtied t alive) sums.0,
        exported (is_exported old.state) _ _ _ _ _ many (moved m w t number new w.tds.dirtied w.tds.unrestored l alive used is_exported) (l.counts.unrestored t alive) sums.1,
      )
    where
      dirty : (again : Bool) (a b s s' d : ℕ) → one_if (is_dirty old.state) ≡ one_if again → a + one_if (is_dirty old.state) ≡ b + 0 → b + s ≡ d → s' ≡ s + one_if again → a + s' ≡ d
      dirty again a b s s' d same h is sum = omega (arith, same, h, is, sum)

      exported : (again : Bool) (a b s s' u : ℕ) → b ≤ 2 ^ 35 → a + one_if again ≡ b + 1 → b ≡ (u + s) % 2 ^ 64 → s' ≡ s + one_if (not again) → a ≡ (u + s') % 2 ^ 64
      exported true a b s s' u many h is sum = let same : a ≡ b = omega (arith, h) in let sums : s' ≡ s = omega (arith, sum) in same ∙ (is ∙ ap (λ (n : ℕ). (u + n) % 2 ^ 64) (sym sums))
      exported false a b s s' u many h is sum = omega (arith, many, h, is, sum)

  exported_there : (x : ℕ) → (x == t) ≡ false → IsAlive w.pages after x → IsCounted m.pages w.pages after streams x
  exported_there x n a =
      let before : IsAlive w.pages w.tds x = record { kind = a.kind; life = a.life } in
      let mine : list_any (λ q. q == p) (w.tds.streams t) ≡ true = stream_among (w.tds.streams t) k few in
      let none : list_any (λ q. q == p) (w.tds.streams x) ≡ false = stream_apart m w l x t p before alive (ne_eqb t x (λ e. eqb-false x t n (sym e))) mine in
      let sums = raised_there w.streams p (w.tds.streams x) (is_exported old.state) none in
      counted_on m.pages w.pages after w.streams streams x sums.0 sums.1
      (others_counted m w t number new w.tds.dirtied w.tds.unrestored l alive used (λ y other. (refl, refl)) x n a)

  page_exported : Lawful m (record w { tds = after; streams = streams })
  page_exported =
      let session = session_at w.tds w.key_table l.sessions t in
      counted_entry_kept m w t 0 number new w.tds.dirtied w.tds.unrestored l used refl (sym low) refl (marked old (w.tds.mig_epochs t) session.1 (session.2 exporting).0) (λ x n. (refl, refl))
      streams
      (raised_lawful w.pages after w.streams p (is_exported old.state)
      (streams_kept w.pages w.pages w.tds after w.streams (λ x a. record { kind = a.kind; life = a.life }) (λ x e. e) refl l.streams) clean first)
      (counts_of m.pages w.pages after streams (λ x a. by_test (x == t)
      (λ y. subst (λ (z : ℕ). IsCounted m.pages w.pages after streams z) (sym (eqb-true x t y)) exported_here)
      (λ n. exported_there x n a)))

-- what holds from page to page: the TD is exported, and its stream has room to count so many pages more
pub record MayGoOn (m : Machine) (t k left : ℕ) (w : World) : Type 0 where
  pub lawful : Lawful m w
  pub alive : IsAlive w.pages w.tds t
  pub op : list_any (λ b. op_number b == op_number (w.tds.ops t)) abortable_ops ≡ true
  pub few : k < length (w.tds.streams t)
  pub clean : w.streams.cleaned (stream_page w t k) + left ≤ most_pages * w.streams.counters (stream_page w t k)
  pub first : w.streams.first_exports (stream_page w t k) + left ≤ most_pages * w.streams.counters (stream_page w t k)

raised_by : (s : Streams) (p n : ℕ) (again : Bool) → s.cleaned p + suc n ≤ most_pages * s.counters p → s.first_exports p + suc n ≤ most_pages * s.counters p
    → ((raised s p again).cleaned p + n ≤ most_pages * s.counters p) × ((raised s p again).first_exports p + n ≤ most_pages * s.counters p)
raised_by s p n true clean first = (let here = put_here s.cleaned p (s.cleaned p + 1) in omega (arith, clean, here), omega (arith, first))
raised_by s p n false clean first = (omega (arith, clean), let here = put_here s.first_exports p (s.first_exports p + 1) in omega (arith, first, here))

pub goes_on : (m : Machine) (t k n : ℕ) (w : World) (gpa : ℕ) → MayGoOn m t k (suc n) w → MayExport w t gpa → MayGoOn m t k n (export_page t k gpa w)
goes_on m t k n w gpa h may =
    let e : Entry = entry_at w t 0 gpa in
    let r = can_export (w.tds.ops t) e.state may in
    let p : ℕ = stream_page w t k in
    let clean = h.clean in
    let first = h.first in
    let more = raised_by w.streams p n (is_exported e.state) clean first in
    record {
      lawful = untouched m _ (export_page t k gpa w) refl
          (page_exported m w t (number_at 0 gpa) k h.lawful h.alive (abortable_exporting (w.tds.ops t) h.op) h.few r.used (sym r.same_level) r.dirt
          (omega (arith, clean)) (omega (arith, first)));
      alive = record { kind = h.alive.kind; life = h.alive.life };
      op = h.op;
      few = h.few;
      clean = more.0;
      first = more.1;
    }

-- a bundle is made first, and makes room for as many pages as a list has
pub begins : (m : Machine) (w : World) (t slot : ℕ) (a : About) (payload : List ℕ) (left : ℕ) → Lawful m w → IsAlive w.pages w.tds t
    → list_any (λ b. op_number b == op_number (w.tds.ops t)) abortable_ops ≡ true
    → a.stream < length (w.tds.streams t) → stream_counter w t a.stream < 2 ^ 32 - 1 → left ≤ most_pages
    → MayGoOn m t a.stream left (make_bundle t slot a payload w)
begins m w t slot a payload left l alive op few room many =
    let p : ℕ = stream_page w t a.stream in
    let here = put_here w.streams.counters p (w.streams.counters p + 1) in
    let clean = l.streams.cleaned p in
    let first = l.streams.first_exports p in
    record {
      lawful = bundle_kept m w t slot a payload l alive (exporting_begun (w.tds.ops t) (abortable_exporting (w.tds.ops t) op)) few room;
      alive = record { kind = alive.kind; life = alive.life };
      op = op;
      few = few;
      clean = omega (arith, clean, here, many);
      first = omega (arith, first, here, many);
    }

-- what the act of EXPORT.MEM keeps: what its bundle does, and then each page
pub pages_exported : (m : Machine) (w : World) (t gpa k slot : ℕ) (count : Option ℕ) → Lawful m w → Passes ((export_pages m t gpa k slot count).items w)
    → (P : ℕ → World → Type 0)
    → ((a : About) (words : List ℕ) (n : ℕ) → a.stream ≡ k → P n (make_bundle t slot a words w))
    → ((n : ℕ) (v : World) (g : ℕ) → MayGoOn m t k (suc n) v → P (suc n) v → MayExport v t g → P n (export_page t k g v))
    → MayGoOn m t k 0 ((export_pages m t gpa k slot count).act w) × P 0 ((export_pages m t gpa k slot count).act w)
pages_exported m w t gpa k slot count l ps P first one =
    let gpas : List ℕ = gpas_from gpa (page_count count) in
    let p = export_passed m w t gpa k slot count ps in
    let about : About = about_pages w t k gpa count in
    each_exported t k (λ n v. MayGoOn m t k n v × P n v) (λ n v g h may. (goes_on m t k n v g h.0 may, one n v g h.0 h.1 may)) gpas
    (make_bundle t slot about (words_of_pages w t gpas) w)
    (gpas_apart gpa (page_count count)) (made_may w t slot about (words_of_pages w t gpas) gpas p.pages) (
      begins m w t slot about (words_of_pages w t gpas) (length gpas) l (td_alive p.td) p.td.op p.few p.room (list_fits gpa count),
      first about
          (words_of_pages w t gpas) (length gpas) refl,
    )

pub export_pages-keeps : (m : Machine) (t gpa k slot : ℕ) (count : Option ℕ) → RowKeeps m (export_pages m t gpa k slot count)
export_pages-keeps m t gpa k slot count = record {
  act = λ w l ps. (pages_exported m w t gpa k slot count l ps (λ n v. Unit {0}) (λ a words n e. tt) (λ n v g h u may. tt)).0.lawful;
  to_tell = λ w. ap (λ (v : World). v.outgoing.to_tell) (each_leaves t k (gpas_from gpa (page_count count)) (made_first t gpa k slot count w));
}

-- EXPORT.TRACK: the migration epoch rises, to the start token's at last
epoch_set : (m : Machine) (w : World) (t epoch : ℕ) → Lawful m w → (length (w.tds.controls t) == 2) ≡ true → 1 ≤ epoch → epoch < 2 ^ 32 → Lawful m (set_mig_epoch t epoch w)
epoch_set m w t epoch l built begun small =
    built_kept m w t built l (set_mig_epoch t epoch w).tds (same_shape m w t built l _ refl refl refl refl refl refl) (λ x. refl) refl l.tds.epoch l.tds.epoch_begun (λ x n. rw n refl)
    (λ x h. by_test (x == t) (λ y. rw y (h.0, small, λ e. (begun, (h.2 e).1), h.3, h.4)) (λ n. rw n h)) (λ x e. e)

token_kept : (m : Machine) (w : World) (t slot start : ℕ) → Lawful m w → Passes ((export_token m t slot start).items w) → Lawful m ((export_token m t slot start).act w)
token_kept m w t slot zero l ps =
    let td : TdPassed w t abortable_ops = search in
    let alive = td_alive td in
    let room : w.tds.mig_epochs t < 2 ^ 32 - 2 = ltb-true _ _ (search) in
    let exporting = abortable_exporting (w.tds.ops t) td.op in
    bundle_kept m (set_mig_epoch t (w.tds.mig_epochs t + 1) w) t slot _ _ (epoch_set m w t (w.tds.mig_epochs t + 1) l td.built (omega arith) (omega (arith, room)))
    (record { kind = alive.kind; life = alive.life }) (exporting_begun (w.tds.ops t) exporting) (l.sessions.first_stream t exporting) (ltb-true _ _ (search))
token_kept m w t slot (suc n) l ps =
    let td : TdPassed w t paused_ops = search in
    let alive = td_alive td in
    let w1 : World = set_mig_epoch t start_epoch w in
    let l1 : Lawful m w1 = epoch_set m w t start_epoch l td.built (lit≤ tt) (lit< tt) in
    let begun = begun_of paused_ops (w.tds.ops t) refl td.op in
    bundle_kept m (track_export t (suc n) w) t slot _ _
    (op_kept m w1 t td.built l1 op.PostExport (l.tds.epoch_begun t begun) (λ e. (session_at w1.tds w1.key_table l1.sessions t).2 (paused_exporting (w.tds.ops t) td.op)) (λ e. cc) (l.tds.vps_few t) (λ e. cc))
    (record { kind = alive.kind; life = alive.life }) (λ e. let no : op.PostExport ≡ op.Uninitialized = rw (same_self t) at e in cc)
    (l.sessions.first_stream t (paused_exporting (w.tds.ops t) td.op))
    (ltb-true _ _ (search))

token_tells : (m : Machine) (w : World) (t slot start : ℕ) → ((export_token m t slot start).act w).outgoing.to_tell ≡ w.outgoing.to_tell
token_tells m w t slot zero = refl
token_tells m w t slot (suc n) = refl

pub export_token-keeps : (m : Machine) (t slot start : ℕ) → RowKeeps m (export_token m t slot start)
export_token-keeps m t slot start = record { act = λ w l ps. token_kept m w t slot start l ps; to_tell = λ w. token_tells m w t slot start }

-- EXPORT.STATE.TD and EXPORT.STATE.VP
pub export_td-keeps : (m : Machine) (t slot : ℕ) → RowKeeps m (export_td m t slot)
export_td-keeps m t slot = record {
  act = λ w l ps.
      let td : TdPassed w t paused_ops = search in
      let alive = td_alive td in
      let exporting = paused_exporting (w.tds.ops t) td.op in
      bundle_kept m (note_td_export t w) t slot _ _
      (built_kept m w t td.built l (note_td_export t w).tds (same_shape m w t td.built l _ refl refl refl refl refl refl) (λ x. refl) refl l.tds.epoch l.tds.epoch_begun (λ x n. rw n refl) (λ x h. h) (λ x e. e))
      (record { kind = alive.kind; life = alive.life }) (exporting_begun (w.tds.ops t) exporting) (l.sessions.first_stream t exporting)
      (ltb-true _ _ (search));
  to_tell = λ w. refl;
}

pub export_vp-keeps : (m : Machine) (t v slot : ℕ) → RowKeeps m (export_vp m t v slot)
export_vp-keeps m t v slot = record {
  act = λ w l ps.
      let td : TdPassed w t paused_ops = search in
      let alive = td_alive td in
      let exporting = paused_exporting (w.tds.ops t) td.op in
      bundle_kept m (note_vp_export t v w) t slot _ _
      (untouched m (record w { tds = (note_vp_export t v w).tds }) _ refl
      (built_kept m w t td.built l (note_vp_export t v w).tds (same_shape m w t td.built l _ refl refl refl refl refl refl) (λ x. refl) refl l.tds.epoch l.tds.epoch_begun (λ x n. rw n refl) (λ x h. h) (λ x e. e)))
      (record { kind = alive.kind; life = alive.life }) (exporting_begun (w.tds.ops t) exporting) (l.sessions.first_stream t exporting)
      (ltb-true _ _ (search));
  to_tell = λ w. refl;
}
