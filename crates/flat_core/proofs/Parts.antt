-- What the words that acts are written in keep of a lawful world.
use Rattle.std.proofs.Common.{lit<, ◌≡◌, ◌≢◌, ◌⊎◌, inl, inr, refl, sym, ◌∙◌, subst, ap, ℕ, zero, suc, ◌<◌, ◌≤◌, ◌^◌, List, [], ◌∷◌, ◌++◌, length, length-append, Some, None, Bool, true, false, not, ◌==◌, ◌&&◌, nat_lt, slice_get, arith}
use Rattle.std.specs.List.{list_any}
use Rattle.std.proofs.lemmas.Bool.{eq-eqb, eqb-true, eqb-false, ne_eqb, not-true, and_left, and_right, and_parts, ltb-true}
use Rattle.td_words.specs.declared.names.PageKind.{PageKind}
use Rattle.td_words.specs.declared.names.PageKind.TheVariants as kind
use Rattle.td_words.specs.declared.names.LifeState.{LifeState}
use Rattle.td_words.specs.declared.names.LifeState.TheVariants as life
use Rattle.td_words.specs.declared.names.OpState.{OpState}
use Rattle.td_words.specs.declared.names.OpState.TheVariants.{Uninitialized}
use Rattle.td_words.specs.declared.names.EntryState.{EntryState}
use Rattle.td_words.specs.declared.machines.Machine.{Machine}
use Rattle.td_words.specs.NameNumber.{life_number}
use Rattle.td_words.specs.Packing.{Entry, Key, Unassigned, FlushedOf}
use Rattle.flat_core.specs.World.{World, Pages, Tds, Streams, KeyTable, put}
use Rattle.flat_core.specs.Locks.{one_if}
use Rattle.flat_core.specs.Conditions.{same_kind, is_host_in, owned_below}
use Rattle.flat_core.specs.Exports.{is_page_where}
use Rattle.flat_core.specs.Effects.{take_node, give_back, set_key, set_life, set_op, set_epoch, add_control, add_vp, begin_measurement, measure, end_measurement, write_back, written_back}
use Rattle.flat_core.specs.Lawful.{IsAlive, IsPageOf, IsNodeOf, AreControls, ArePagesOf, all_differ, LawfulPages, LawfulTds, IsListed, LawfulLists, LawfulTree, LawfulKeys, LawfulBeginnings, LawfulCounts, LawfulStreams, LawfulSessions, Lawful, IsNew, is_node, is_free, is_named_kind, key_owner, is_flushed, is_exporting, is_importing, most_vps}
use Rattle.flat_core.proofs.Tests.{by_test, some_same, same_self}
use Rattle.flat_core.proofs.Pages.{node_kept, controls_kept, pages_kept, taken, other, taken_node, taken_controls, taken_list, taken_pages}
use Rattle.flat_core.proofs.Exports.{IsOfExported, tallies, counts_kept, taken_where}

-- a life that isn't at its end
abbrev pub IsLive : LifeState → Type 0
IsLive s = (life_number s == life_number life.Teardown) ≡ false

-- All that `Lawful` looks at of a world. What changes nothing of it leaves the world lawful.
abbrev Looked : Type 0
Looked = ℕ × Pages × Tds × (ℕ → ℕ) × KeyTable × (ℕ → ℕ → ℕ) × Streams

abbrev pub looked_at : World → Looked
looked_at w = (w.size, w.pages, w.tds, w.vps.indexes, w.key_table, w.hidden.rtmrs, w.streams)

pub untouched : (m : Machine) (w v : World) → looked_at w ≡ looked_at v → Lawful m w → Lawful m v
untouched m w v e l = record {
  size = ap (λ (x : Looked). x.0) (sym e) ∙ l.size;
  pages = subst (λ (x : Looked). LawfulPages m.pages x.1) e l.pages;
  tds = subst (λ (x : Looked). LawfulTds x.1 x.2) e l.tds;
  lists = subst (λ (x : Looked). LawfulLists x.1 x.2 x.3) e l.lists;
  tree = subst (λ (x : Looked). LawfulTree m.pages x.1 x.2) e l.tree;
  keys = subst (λ (x : Looked). LawfulKeys m.hkids x.1 x.2 x.4) e l.keys;
  beginnings = subst (λ (x : Looked). LawfulBeginnings x.1 x.2 x.5) e l.beginnings;
  counts = subst (λ (x : Looked). LawfulCounts m.pages x.1 x.2 x.6) e l.counts;
  streams = subst (λ (x : Looked). LawfulStreams x.1 x.2 x.6) e l.streams;
  sessions = subst (λ (x : Looked). LawfulSessions x.2 x.4) e l.sessions;
}

-- what is said of one TD's session, which no change of other things touches
abbrev pub HasSession : Tds → ℕ → Type 0
HasSession tds t = (tds.sessions t < 2 ^ 16) × (tds.mig_epochs t < 2 ^ 32) × (is_exporting (tds.ops t) ≡ true → (1 ≤ tds.mig_epochs t) × (1 ≤ length (tds.streams t)))
    × (is_importing (tds.ops t) ≡ true → 1 ≤ length (tds.streams t)) × (length (tds.vps t) ≤ most_vps (tds.ops t) (tds.vps_expected t))

pub sessions_of : (tds : Tds) (table : KeyTable) → table.last_exported < 2 ^ 16 → ((x : ℕ) → HasSession tds x) → LawfulSessions tds table
sessions_of tds table last h = record { last_exported = last; session = λ x. (h x).0; mig_epoch = λ x. (h x).1; mig_epoch_begun = λ x e. ((h x).2 e).0; first_stream = λ x e. ((h x).2 e).1; import_stream = λ x e. (h x).3 e; vps = λ x. (h x).4 }

pub session_at : (tds : Tds) (table : KeyTable) → LawfulSessions tds table → (x : ℕ) → HasSession tds x
session_at tds table l x = (l.session x, l.mig_epoch x, λ e. (l.mig_epoch_begun x e, l.first_stream x e), l.import_stream x, l.vps x)

pub sessions_kept : (tds tds' : Tds) (table table' : KeyTable) → table.last_exported ≡ table'.last_exported → ((x : ℕ) → HasSession tds x → HasSession tds' x) → LawfulSessions tds table → LawfulSessions tds' table'
sessions_kept tds tds' table table' last h l = sessions_of tds' table' (subst (λ (n : ℕ). n < 2 ^ 16) last l.last_exported) (λ x. h x (session_at tds table l x))

-- streams whose TD, where it is UNINITIALIZED, was so before
pub streams_kept : (pages pages' : Pages) (tds tds' : Tds) (streams : Streams) → ((x : ℕ) → IsAlive pages' tds' x → IsAlive pages tds x) → ((x : ℕ) → tds'.ops x ≡ Uninitialized → tds.ops x ≡ Uninitialized)
    → tds'.streams ≡ tds.streams → LawfulStreams pages tds streams → LawfulStreams pages' tds' streams
streams_kept pages pages' tds tds' streams back before same l = record {
  counter = l.counter;
  cleaned = l.cleaned;
  first_exports = l.first_exports;
  uncounted = λ x s a new among. l.uncounted x s (back x a) (before x new) (subst (λ (f : ℕ → List ℕ). list_any (λ q. q == s) (f x) ≡ true) same among);
}

-- what pages, map and HKIDs say of TDs
pub record SameShape (tds tds' : Tds) : Type 0 where
  pub hkids : tds'.hkids ≡ tds.hkids
  pub controls : tds'.controls ≡ tds.controls
  pub entries : tds'.entries ≡ tds.entries
  pub vps : tds'.vps ≡ tds.vps
  pub vps_expected : tds'.vps_expected ≡ tds.vps_expected
  pub streams : tds'.streams ≡ tds.streams

-- what of a TD stands as it began
pub record Facts : Type 0 where
  pub op : OpState
  pub epoch : ℕ
  pub entries : ℕ → ℕ → Entry
  pub vps : List ℕ
  pub vps_expected : ℕ
  pub streams : List ℕ
  pub mrtd : ℕ → ℕ
  pub session : ℕ
  pub mig_epoch : ℕ
  pub td_exported : ℕ
  pub vps_exported : ℕ
  pub dirtied : ℕ
  pub unrestored : ℕ
  pub rtmr : ℕ → ℕ

abbrev pub facts : Tds → (ℕ → ℕ → ℕ) → ℕ → Facts
facts tds rtmrs t = record {
  op = tds.ops t;
  epoch = tds.epochs t;
  entries = tds.entries t;
  vps = tds.vps t;
  vps_expected = tds.vps_expected t;
  streams = tds.streams t;
  mrtd = tds.mrtds t;
  session = tds.sessions t;
  mig_epoch = tds.mig_epochs t;
  td_exported = tds.td_exported t;
  vps_exported = tds.vps_exported t;
  dirtied = tds.dirtied t;
  unrestored = tds.unrestored t;
  rtmr = rtmrs t;
}

pub new_kept : (tds tds' : Tds) (r r' : ℕ → ℕ → ℕ) (t : ℕ) → facts tds' r' t ≡ facts tds r t → IsNew tds r t → IsNew tds' r' t
new_kept tds tds' r r' t e h = record {
  op = ap (λ (f : Facts). f.op) e ∙ h.op;
  epoch = ap (λ (f : Facts). f.epoch) e ∙ h.epoch;
  entries = λ l n. ap (λ (f : Facts). f.entries l n) e ∙ h.entries l n;
  vps = ap (λ (f : Facts). f.vps) e ∙ h.vps;
  vps_expected = ap (λ (f : Facts). f.vps_expected) e ∙ h.vps_expected;
  streams = ap (λ (f : Facts). f.streams) e ∙ h.streams;
  mrtd = λ k. ap (λ (f : Facts). f.mrtd k) e ∙ h.mrtd k;
  session = ap (λ (f : Facts). f.session) e ∙ h.session;
  mig_epoch = ap (λ (f : Facts). f.mig_epoch) e ∙ h.mig_epoch;
  td_exported = ap (λ (f : Facts). f.td_exported) e ∙ h.td_exported;
  vps_exported = ap (λ (f : Facts). f.vps_exported) e ∙ h.vps_exported;
  dirtied = ap (λ (f : Facts). f.dirtied) e ∙ h.dirtied;
  unrestored = ap (λ (f : Facts). f.unrestored) e ∙ h.unrestored;
  rtmr = λ k. ap (λ (f : Facts). f.rtmr k) e ∙ h.rtmr k;
}

-- TDs that are alive were so before, and have the pages and the map that they had
module _ (pages : Pages) (tds tds' : Tds) (back : (x : ℕ) → IsAlive pages tds' x → IsAlive pages tds x) where
  pub shape_tds : SameShape tds tds' → ((x : ℕ) → tds'.epochs x < 2 ^ 32) → ((x : ℕ) → tds'.ops x ≢ Uninitialized → 1 ≤ tds'.epochs x) → LawfulTds pages tds → LawfulTds pages tds'
  shape_tds same small begun l = record {
    controls = λ x a. subst (λ (f : ℕ → List ℕ). AreControls pages x (f x)) (sym same.controls) (l.controls x (back x a));
    vps = λ x a. subst (λ (f : ℕ → List ℕ). ArePagesOf pages x kind.Tdvpr (f x)) (sym same.vps) (l.vps x (back x a));
    vps_few = λ x. subst (λ (f : ℕ → List ℕ). length (f x) ≤ 8) (sym same.vps) (l.vps_few x);
    vps_differ = λ x. subst (λ (f : ℕ → List ℕ). all_differ (f x) ≡ true) (sym same.vps) (l.vps_differ x);
    vps_expected = λ x. subst (λ (f : ℕ → ℕ). f x ≤ 8) (sym same.vps_expected) (l.vps_expected x);
    streams = λ x a. subst (λ (f : ℕ → List ℕ). ArePagesOf pages x kind.Migsc (f x)) (sym same.streams) (l.streams x (back x a));
    streams_few = λ x. subst (λ (f : ℕ → List ℕ). length (f x) ≤ 4) (sym same.streams) (l.streams_few x);
    streams_differ = λ x. subst (λ (f : ℕ → List ℕ). all_differ (f x) ≡ true) (sym same.streams) (l.streams_differ x);
    epoch = small;
    epoch_begun = begun;
  }

  pub shape_listed : (lists lists' : ℕ → List ℕ) (k : PageKind) → lists' ≡ lists → ((p : ℕ) → IsListed pages tds lists k p) → (p : ℕ) → IsListed pages tds' lists' k p
  shape_listed lists lists' k same h p e a = subst (λ (f : ℕ → List ℕ). list_any (λ q. q == p) (f (pages.owners p)) ≡ true) (sym same) (h p e (back (pages.owners p) a))

  pub shape_lists : (indexes : ℕ → ℕ) → SameShape tds tds' → LawfulLists pages tds indexes → LawfulLists pages tds' indexes
  shape_lists indexes same l = record {
    control = shape_listed tds.controls tds'.controls kind.Tdcx same.controls l.control;
    vp = shape_listed tds.vps tds'.vps kind.Tdvpr same.vps l.vp;
    stream = shape_listed tds.streams tds'.streams kind.Migsc same.streams l.stream;
    index = λ x i v a e. l.index x i v (back x a) (subst (λ (f : ℕ → List ℕ). slice_get (f x) i ≡ Some v) same.vps e);
  }

  pub shape_tree : (count : ℕ) → tds'.entries ≡ tds.entries → LawfulTree count pages tds → LawfulTree count pages tds'
  shape_tree count same l = subst (λ (f : ℕ → ℕ → ℕ → Entry). LawfulTree count pages (record tds' { entries = f })) (sym same) (record {
    entry = l.entry;
    upper = λ x k n a. l.upper x k n (back x (record { kind = a.kind; life = a.life }));
    lowest = λ x n a. l.lowest x n (back x (record { kind = a.kind; life = a.life }));
    below = λ x k n few a. l.below x k n few (back x (record { kind = a.kind; life = a.life }));
    in_range = l.in_range;
    named = λ p k a. l.named p k (back (pages.owners p) (record { kind = a.kind; life = a.life }));
  })

  pub shape_keys : tds'.hkids ≡ tds.hkids → (count : ℕ) (table table' : KeyTable) → ((x : ℕ) → IsAlive pages tds x → IsAlive pages tds' x) → ((h : ℕ) → key_owner (table'.keys h) ≡ key_owner (table.keys h))
      → ((x : ℕ) → IsAlive pages tds' x → is_flushed (table'.keys (tds.hkids x)) ≡ (life_number (tds'.lives x) == life_number life.Blocked))
      → LawfulKeys count pages tds table → LawfulKeys count pages tds' table'
  shape_keys same count table table' forth owner flushed l = record {
    in_range = λ x a. subst (λ (f : ℕ → ℕ). (1 ≤ f x) × (f x ≤ count)) (sym same) (l.in_range x (back x a));
    owner = λ x a. subst (λ (f : ℕ → ℕ). key_owner (table'.keys (f x)) ≡ Some x) (sym same) (owner (tds.hkids x) ∙ l.owner x (back x a));
    owned = λ h x e. (let o = l.owned h x (sym (owner h) ∙ e) in (forth x o.0, ap (λ (f : ℕ → ℕ). f x) same ∙ o.1));
    flushed = λ x a. subst (λ (f : ℕ → ℕ). is_flushed (table'.keys (f x)) ≡ (life_number (tds'.lives x) == life_number life.Blocked)) (sym same) (flushed x a);
  }

  pub shape_beginnings : tds'.controls ≡ tds.controls → (r r' : ℕ → ℕ → ℕ) → ((x : ℕ) → (length (tds.controls x) == 2) ≡ false → facts tds' r' x ≡ facts tds r x) → LawfulBeginnings pages tds r → LawfulBeginnings pages tds' r'
  shape_beginnings same r r' e l = record {
    is_new = λ x a n. (let n' : (length (tds.controls x) == 2) ≡ false = subst (λ (f : ℕ → List ℕ). (length (f x) == 2) ≡ false) same n in
        new_kept tds tds' r r' x (e x n') (l.is_new x (back x a) n'));
  }

  pub shape_counts : (count : ℕ) (streams : Streams) → ((x : ℕ) → tallies tds' x ≡ tallies tds x) → tds'.entries ≡ tds.entries → LawfulCounts count pages tds streams → LawfulCounts count pages tds' streams
  shape_counts count streams same entries l = counts_kept count pages pages tds tds' streams back same (λ x a f of p. ap (λ (e : ℕ → ℕ → ℕ → Entry). is_page_where f pages x (e x 0) p) entries) l

-- a TD with its two TDCX pages isn't one without
pub built_other : (controls : ℕ → List ℕ) (t x : ℕ) → (length (controls t) == 2) ≡ true → (length (controls x) == 2) ≡ false → (x == t) ≡ false
built_other controls t x b n = by_test (x == t)
    (λ y. absurd (let same : x ≡ t = eqb-true x t y in let no : true ≡ false = sym b ∙ (ap (λ (z : ℕ). length (controls z) == 2) (sym same) ∙ n) in cc))
    (λ y. y)

-- PHYMEM.CACHE.WB leaves each HKID its TD's, flushed or not
pub write_back_kept : (m : Machine) (w : World) → Lawful m w → Lawful m (write_back w)
write_back_kept m w l = record {
  size = l.size;
  pages = l.pages;
  tds = l.tds;
  lists = l.lists;
  tree = l.tree;
  keys = shape_keys w.pages w.tds w.tds (λ x a. a) refl m.hkids w.key_table (write_back w).key_table (λ x a. a) (λ h. same_owner (w.key_table.keys h))
      (λ x a. same_flush (w.key_table.keys (w.tds.hkids x)) ∙ l.keys.flushed x a) l.keys;
  beginnings = l.beginnings;
  counts = l.counts;
  streams = l.streams;
  sessions = sessions_kept w.tds w.tds w.key_table (write_back w).key_table refl (λ x h. h) l.sessions;
}
  where
    same_owner : (k : Key) → key_owner (written_back k) ≡ key_owner k
    same_owner Unassigned = refl
    same_owner _ = refl

    same_flush : (k : Key) → is_flushed (written_back k) ≡ is_flushed k
    same_flush Unassigned = refl
    same_flush _ = refl

-- the HKID of a TD that is alive is no other's
pub own_hkid : (m : Machine) (w : World) (t x : ℕ) → Lawful m w → IsAlive w.pages w.tds t → IsAlive w.pages w.tds x → (x == t) ≡ false → (w.tds.hkids x == w.tds.hkids t) ≡ false
own_hkid m w t x l alive a n = by_test (w.tds.hkids x == w.tds.hkids t)
    (λ y. absurd (let here : w.tds.hkids x ≡ w.tds.hkids t = eqb-true _ _ y in
    let both : Some x ≡ Some t = sym (l.keys.owner x a) ∙ (ap (λ (h : ℕ). key_owner (w.key_table.keys h)) here ∙ l.keys.owner t alive) in
    let no : true ≡ false = sym (eq-eqb x t (some_same x t both)) ∙ n in cc))
    (λ y. y)

-- a TD that is alive, and stays so
module _ (m : Machine) (w : World) (t : ℕ) (s : LifeState) (alive : IsAlive w.pages w.tds t) (after : IsLive s) (l : Lawful m w) where
  abbrev lived : Tds
  lived = record (w.tds) { lives = put w.tds.lives t s }

  lived_back : (x : ℕ) → IsAlive w.pages lived x → IsAlive w.pages w.tds x
  lived_back x a = record { kind = a.kind; life = by_test (x == t) (λ y. subst (λ (z : ℕ). IsLive (w.tds.lives z)) (sym (eqb-true x t y)) alive.life) (λ n. rw n at a.life) }

  lived_forth : (x : ℕ) → IsAlive w.pages w.tds x → IsAlive w.pages lived x
  lived_forth x a = record { kind = a.kind; life = by_test (x == t) (λ y. rw y after) (λ n. rw n a.life) }

  lived_kept : (keys : ℕ → Key) → ((h : ℕ) → key_owner (keys h) ≡ key_owner (w.key_table.keys h))
      → ((x : ℕ) → IsAlive w.pages lived x → is_flushed (keys (w.tds.hkids x)) ≡ (life_number (lived.lives x) == life_number life.Blocked))
      → Lawful m (record w { tds = lived; key_table = record (w.key_table) { keys = keys } })
  lived_kept keys owner flushed =
      let same : SameShape w.tds lived = record { hkids = refl; controls = refl; entries = refl; vps = refl; vps_expected = refl; streams = refl } in
      record {
        size = l.size;
        pages = l.pages;
        tds = shape_tds w.pages w.tds lived lived_back same l.tds.epoch l.tds.epoch_begun l.tds;
        lists = shape_lists w.pages w.tds lived lived_back w.vps.indexes same l.lists;
        tree = shape_tree w.pages w.tds lived lived_back m.pages refl l.tree;
        keys = shape_keys w.pages w.tds lived lived_back refl m.hkids w.key_table (record (w.key_table) { keys = keys }) lived_forth owner flushed l.keys;
        beginnings = shape_beginnings w.pages w.tds lived lived_back refl w.hidden.rtmrs w.hidden.rtmrs (λ x n. refl) l.beginnings;
        counts = shape_counts w.pages w.tds lived lived_back m.pages w.streams (λ x. refl) refl l.counts;
        streams = streams_kept w.pages w.pages w.tds lived w.streams lived_back (λ x e. e) refl l.streams;
        sessions = sessions_kept w.tds lived w.key_table (record (w.key_table) { keys = keys }) refl (λ x h. h) l.sessions;
      }

  -- its HKID stays flushed, or unflushed
  pub life_kept : (life_number (w.tds.lives t) == life_number life.Blocked) ≡ (life_number s == life_number life.Blocked) → Lawful m (set_life t s w)
  life_kept same = lived_kept w.key_table.keys (λ h. refl)
      (λ x a. by_test (x == t)
      (λ y. rw y (l.keys.flushed x (lived_back x a) ∙ (ap (λ (z : ℕ). life_number (w.tds.lives z) == life_number life.Blocked) (eqb-true x t y) ∙ same)))
      (λ n. rw n (l.keys.flushed x (lived_back x a))))

  -- or is flushed now, where the TD is blocked
  pub flush_kept : (life_number s == life_number life.Blocked) ≡ true → Lawful m (set_key (w.tds.hkids t) (FlushedOf t false) (set_life t s w))
  flush_kept blocked = lived_kept (put w.key_table.keys (w.tds.hkids t) (FlushedOf t false))
      (λ h. by_test (h == w.tds.hkids t) (λ y. rw y (sym (l.keys.owner t alive) ∙ ap (λ (n : ℕ). key_owner (w.key_table.keys n)) (sym (eqb-true h _ y)))) (λ n. rw n refl))
      (λ x a. by_test (x == t)
      (λ y. rw (y, eq-eqb (w.tds.hkids x) (w.tds.hkids t) (ap w.tds.hkids (eqb-true x t y))) (sym blocked))
      (λ n. rw (n, own_hkid m w t x l alive (lived_back x a) n) (l.keys.flushed x (lived_back x a))))

-- a TD that has its two TDCX pages, and keeps its pages, map and life
module _ (m : Machine) (w : World) (t : ℕ) (built : (length (w.tds.controls t) == 2) ≡ true) (l : Lawful m w) where
  lives_back : (tds' : Tds) → tds'.lives ≡ w.tds.lives → (x : ℕ) → IsAlive w.pages tds' x → IsAlive w.pages w.tds x
  lives_back tds' lives x a = record { kind = a.kind; life = subst (λ (f : ℕ → LifeState). IsLive (f x)) lives a.life }

  lives_forth : (tds' : Tds) → tds'.lives ≡ w.tds.lives → (x : ℕ) → IsAlive w.pages w.tds x → IsAlive w.pages tds' x
  lives_forth tds' lives x a = record { kind = a.kind; life = subst (λ (f : ℕ → LifeState). IsLive (f x)) (sym lives) a.life }

  -- all else of it may change, with the streams and the number of the last session
  pub session_kept : (tds' : Tds) (streams : Streams) (last : ℕ) → SameShape w.tds tds' → tds'.lives ≡ w.tds.lives → ((x : ℕ) → tds'.epochs x < 2 ^ 32) → ((x : ℕ) → tds'.ops x ≢ Uninitialized → 1 ≤ tds'.epochs x)
      → ((x : ℕ) → (x == t) ≡ false → facts tds' w.hidden.rtmrs x ≡ facts w.tds w.hidden.rtmrs x) → LawfulCounts m.pages w.pages tds' streams → LawfulStreams w.pages tds' streams
      → LawfulSessions tds' (record (w.key_table) { last_exported = last }) → Lawful m (record w { tds = tds'; streams = streams; key_table = record (w.key_table) { last_exported = last } })
  session_kept tds' streams last same lives small begun e counts counters sessions = record {
    size = l.size;
    pages = l.pages;
    tds = shape_tds w.pages w.tds tds' back same small begun l.tds;
    lists = shape_lists w.pages w.tds tds' back w.vps.indexes same l.lists;
    tree = shape_tree w.pages w.tds tds' back m.pages same.entries l.tree;
    keys = shape_keys w.pages w.tds tds' back same.hkids m.hkids w.key_table (record (w.key_table) { last_exported = last }) (lives_forth tds' lives) (λ h. refl)
        (λ x a. subst (λ (f : ℕ → LifeState). is_flushed (w.key_table.keys (w.tds.hkids x)) ≡ (life_number (f x) == life_number life.Blocked)) (sym lives) (l.keys.flushed x (back x a))) l.keys;
    beginnings = shape_beginnings w.pages w.tds tds' back same.controls w.hidden.rtmrs w.hidden.rtmrs (λ x n. e x (built_other w.tds.controls t x built n)) l.beginnings;
    counts = counts;
    streams = counters;
    sessions = sessions;
  }
    where
      back : (x : ℕ) → IsAlive w.pages tds' x → IsAlive w.pages w.tds x
      back = lives_back tds' lives

  pub built_kept : (tds' : Tds) → SameShape w.tds tds' → ((x : ℕ) → tallies tds' x ≡ tallies w.tds x) → tds'.lives ≡ w.tds.lives → ((x : ℕ) → tds'.epochs x < 2 ^ 32) → ((x : ℕ) → tds'.ops x ≢ Uninitialized → 1 ≤ tds'.epochs x)
      → ((x : ℕ) → (x == t) ≡ false → facts tds' w.hidden.rtmrs x ≡ facts w.tds w.hidden.rtmrs x) → ((x : ℕ) → HasSession w.tds x → HasSession tds' x)
      → ((x : ℕ) → tds'.ops x ≡ Uninitialized → w.tds.ops x ≡ Uninitialized) → Lawful m (record w { tds = tds' })
  built_kept tds' same many lives small begun e session before =
      session_kept tds' w.streams w.key_table.last_exported same lives small begun e (shape_counts w.pages w.tds tds' (lives_back tds' lives) m.pages w.streams many same.entries l.counts)
      (streams_kept w.pages w.pages w.tds tds' w.streams (lives_back tds' lives) before same.streams l.streams)
      (sessions_kept w.tds tds' w.key_table w.key_table refl session l.sessions)

  abbrev pub same_shape : (tds' : Tds) → tds'.hkids ≡ w.tds.hkids → tds'.controls ≡ w.tds.controls → tds'.entries ≡ w.tds.entries → tds'.vps ≡ w.tds.vps → tds'.vps_expected ≡ w.tds.vps_expected → tds'.streams ≡ w.tds.streams → SameShape w.tds tds'
  same_shape tds' a b c d e f = record { hkids = a; controls = b; entries = c; vps = d; vps_expected = e; streams = f }

  pub op_kept : (s : OpState) → 1 ≤ w.tds.epochs t → (is_exporting s ≡ true → (1 ≤ w.tds.mig_epochs t) × (1 ≤ length (w.tds.streams t))) → (is_importing s ≡ true → 1 ≤ length (w.tds.streams t)) → length (w.tds.vps t) ≤ most_vps s (w.tds.vps_expected t) → s ≢ Uninitialized → Lawful m (set_op t s w)
  op_kept s begun exports imports few other = built_kept (record (w.tds) { ops = put w.tds.ops t s }) (same_shape _ refl refl refl refl refl refl) (λ x. refl) refl l.tds.epoch
      (λ x. by_test (x == t) (λ y n. subst (λ (z : ℕ). 1 ≤ w.tds.epochs z) (sym (eqb-true x t y)) begun) (λ y n. l.tds.epoch_begun x (rw y at n))) (λ x n. rw n refl)
      (λ x h. by_test (x == t) (λ y. (let same : x ≡ t = eqb-true x t y in rw y (h.0, h.1, rw same exports, rw same imports, rw same few))) (λ n. rw n h))
      (λ x. by_test (x == t) (λ y e. absurd (other (rw y at e))) (λ n e. rw n at e))

  pub epoch_kept : (e : ℕ) → 1 ≤ e → e < 2 ^ 32 → Lawful m (set_epoch t e w)
  epoch_kept e begun small = built_kept (record (w.tds) { epochs = put w.tds.epochs t e }) (same_shape _ refl refl refl refl refl refl) (λ x. refl) refl
      (λ x. by_test (x == t) (λ y. rw y small) (λ n. rw n (l.tds.epoch x))) (λ x n. by_test (x == t) (λ y. rw y begun) (λ y. rw y (l.tds.epoch_begun x n))) (λ x n. rw n refl) (λ x h. h) (λ x e. e)

  pub begin_kept : Lawful m (begin_measurement t w)
  begin_kept = built_kept (record (w.tds) { measured = put w.tds.measured t [] }) (same_shape _ refl refl refl refl refl refl) (λ x. refl) refl l.tds.epoch l.tds.epoch_begun (λ x n. refl) (λ x h. h) (λ x e. e)

  pub measure_kept : (records : List ℕ) → Lawful m (measure t records w)
  measure_kept records = built_kept (measure t records w).tds (same_shape _ refl refl refl refl refl refl) (λ x. refl) refl l.tds.epoch l.tds.epoch_begun (λ x n. refl) (λ x h. h) (λ x e. e)

  pub end_kept : Lawful m (end_measurement t w)
  end_kept = built_kept (end_measurement t w).tds (same_shape _ refl refl refl refl refl refl) (λ x. refl) refl l.tds.epoch l.tds.epoch_begun (λ x n. rw n refl) (λ x h. h) (λ x e. e)

-- what every world keeps, but that this page is in its TD's list
pub record LawfulBut (m : Machine) (w : World) (p : ℕ) : Type 0 where
  pub size : w.size ≡ m.pages
  pub pages : LawfulPages m.pages w.pages
  pub tds : LawfulTds w.pages w.tds
  pub control : (q : ℕ) → (q == p) ≡ false → IsListed w.pages w.tds w.tds.controls kind.Tdcx q
  pub vp : (q : ℕ) → (q == p) ≡ false → IsListed w.pages w.tds w.tds.vps kind.Tdvpr q
  pub stream : (q : ℕ) → (q == p) ≡ false → IsListed w.pages w.tds w.tds.streams kind.Migsc q
  pub index : (t i v : ℕ) → IsAlive w.pages w.tds t → slice_get (w.tds.vps t) i ≡ Some v → w.vps.indexes v ≡ i
  pub tree : LawfulTree m.pages w.pages w.tds
  pub keys : LawfulKeys m.hkids w.pages w.tds w.key_table
  pub beginnings : LawfulBeginnings w.pages w.tds w.hidden.rtmrs
  pub counts : LawfulCounts m.pages w.pages w.tds w.streams
  pub streams : LawfulStreams w.pages w.tds w.streams
  pub sessions : LawfulSessions w.tds w.key_table

-- a list that a page is added to
among_more : (q p : ℕ) (ps : List ℕ) → list_any (λ x. x == q) ps ≡ true → list_any (λ x. x == q) (ps ++ p ∷ []) ≡ true
among_more q p [] h = cc
among_more q p (x ∷ xs) h = by_test (x == q) (λ y. rw y refl) (λ y. rw y (among_more q p xs (rw y at h)))

among_last : (q : ℕ) (ps : List ℕ) → list_any (λ x. x == q) (ps ++ q ∷ []) ≡ true
among_last q [] = rw (same_self q) refl
among_last q (x ∷ xs) = by_test (x == q) (λ y. rw y refl) (λ y. rw y (among_last q xs))

-- pages of a TD, with one more of that kind; and a list where no page comes twice, with a page that it hasn't
pub more_pages : (pages : Pages) (t p : ℕ) (k : PageKind) → IsPageOf pages t p k → (ps : List ℕ) → ArePagesOf pages t k ps → ArePagesOf pages t k (ps ++ p ∷ [])
more_pages pages t p k page [] h = (page, tt)
more_pages pages t p k page (q ∷ qs) h = (h.0, more_pages pages t p k page qs h.1)

not_among : (p q : ℕ) (ps : List ℕ) → (p == q) ≡ false → list_any (λ x. x == q) ps ≡ false → list_any (λ x. x == q) (ps ++ p ∷ []) ≡ false
not_among p q [] n h = rw n refl
not_among p q (x ∷ xs) n h = by_test (x == q) (λ y. absurd (let no : true ≡ false = rw y at h in cc)) (λ y. rw y (not_among p q xs n (rw y at h)))

pub all_differ_more : (p : ℕ) (ps : List ℕ) → list_any (λ q. q == p) ps ≡ false → all_differ ps ≡ true → all_differ (ps ++ p ∷ []) ≡ true
all_differ_more p [] h d = refl
all_differ_more p (q ∷ qs) h d = by_test (q == p)
    (λ y. absurd (let no : true ≡ false = rw y at h in cc))
    (λ y. (let rest : list_any (λ x. x == p) qs ≡ false = rw y at h in
    let apart' : (p == q) ≡ false = ne_eqb p q (λ e. absurd (let no : true ≡ false = sym (eq-eqb q p (sym e)) ∙ y in cc)) in
    rw (not_among p q qs apart' (not-true _ (and_parts (not (list_any (λ x. x == q) qs)) (all_differ qs) d).0), all_differ_more p qs rest (and_parts (not (list_any (λ x. x == q) qs)) (all_differ qs) d).1) refl))

-- a page of a TD is added to its list
module _ (pages : Pages) (tds tds' : Tds) (back : (x : ℕ) → IsAlive pages tds' x → IsAlive pages tds x) (t p : ℕ) (k : PageKind) (page : IsPageOf pages t p k) where
  pub more_listed : (lists : ℕ → List ℕ) → ((q : ℕ) → (q == p) ≡ false → IsListed pages tds lists k q) → (q : ℕ) → IsListed pages tds' (put lists t (lists t ++ p ∷ [])) k q
  more_listed lists h q e a = by_test (q == p)
      (λ y. subst (λ (z : ℕ). list_any (λ x. x == z) (put lists t (lists t ++ p ∷ []) (pages.owners z)) ≡ true) (sym (eqb-true q p y)) here)
      (λ n. by_test (pages.owners q == t)
      (λ y. rw y (among_more q p (lists t) (subst (λ (z : ℕ). list_any (λ x. x == q) (lists z) ≡ true) (eqb-true _ t y) (h q n e (back (pages.owners q) a)))))
      (λ y. rw y (h q n e (back (pages.owners q) a))))
    where
      here : list_any (λ x. x == p) (put lists t (lists t ++ p ∷ []) (pages.owners p)) ≡ true
      here = rw (page.owner, same_self t) (among_last p (lists t))

  pub others_listed : (j : PageKind) → k ≢ j → (lists : ℕ → List ℕ) → ((q : ℕ) → (q == p) ≡ false → IsListed pages tds lists j q) → (q : ℕ) → IsListed pages tds' lists j q
  others_listed j apart lists h q e a = by_test (q == p)
      (λ y. absurd (apart (sym page.kind ∙ (ap pages.kinds (sym (eqb-true q p y)) ∙ e))))
      (λ n. h q n e (back (pages.owners q) a))

-- a TDCX page is added to a TD that has room for it
module _ (m : Machine) (w : World) (t p : ℕ) (l : LawfulBut m w p) (page : IsPageOf w.pages t p kind.Tdcx) (room : nat_lt (length (w.tds.controls t)) 2 ≡ true) (apart : (c : ℕ) → w.tds.controls t ≡ c ∷ [] → (c == p) ≡ false) where
  abbrev with_control : Tds
  with_control = (add_control t p w).tds

  control_back : (x : ℕ) → IsAlive w.pages with_control x → IsAlive w.pages w.tds x
  control_back x a = record { kind = a.kind; life = a.life }

  more_controls : (cs : List ℕ) → nat_lt (length cs) 2 ≡ true → ((c : ℕ) → cs ≡ c ∷ [] → (c == p) ≡ false) → AreControls w.pages t cs → AreControls w.pages t (cs ++ p ∷ [])
  more_controls [] few d h = page
  more_controls (c ∷ []) few d h = (h, page, d c refl)
  more_controls (c ∷ r ∷ cs) few d h = absurd (let n : length (c ∷ r ∷ cs) < 2 = ltb-true _ 2 few in omega arith)

  not_two : (cs : List ℕ) → nat_lt (length cs) 2 ≡ true → (length cs == 2) ≡ false
  not_two cs few = ne_eqb (length cs) 2 (λ e. let n : length cs < 2 = ltb-true _ 2 few in omega arith)

  pub control_kept : Lawful m (add_control t p w)
  control_kept = record {
    size = l.size;
    pages = l.pages;
    tds = record {
      controls = λ x a. by_test (x == t)
          (λ y. rw y (subst (λ (z : ℕ). AreControls w.pages z (w.tds.controls t ++ p ∷ [])) (sym (eqb-true x t y)) (more_controls (w.tds.controls t) room apart (subst (λ (z : ℕ). AreControls w.pages z (w.tds.controls z)) (eqb-true x t y) (l.tds.controls x (control_back x a))))))
          (λ n. rw n (l.tds.controls x (control_back x a)));
      vps = λ x a. l.tds.vps x (control_back x a);
      vps_few = l.tds.vps_few;
      vps_differ = l.tds.vps_differ;
      vps_expected = l.tds.vps_expected;
      streams = λ x a. l.tds.streams x (control_back x a);
      streams_few = l.tds.streams_few;
      streams_differ = l.tds.streams_differ;
      epoch = l.tds.epoch;
      epoch_begun = l.tds.epoch_begun;
    };
    lists = record {
      control = more_listed w.pages w.tds with_control control_back t p kind.Tdcx page w.tds.controls l.control;
      vp = others_listed w.pages w.tds with_control control_back t p kind.Tdcx page kind.Tdvpr (λ e. cc) w.tds.vps l.vp;
      stream = others_listed w.pages w.tds with_control control_back t p kind.Tdcx page kind.Migsc (λ e. cc) w.tds.streams l.stream;
      index = λ x i v a. l.index x i v (control_back x a);
    };
    tree = shape_tree w.pages w.tds with_control control_back m.pages refl l.tree;
    keys = shape_keys w.pages w.tds with_control control_back refl m.hkids w.key_table w.key_table (λ x a. record { kind = a.kind; life = a.life }) (λ h. refl) (λ x a. l.keys.flushed x (control_back x a)) l.keys;
    beginnings = record {
      is_new = λ x a n. new_kept w.tds with_control w.hidden.rtmrs w.hidden.rtmrs x refl (l.beginnings.is_new x (control_back x a)
          (by_test (x == t) (λ y. let same : x ≡ t = eqb-true x t y in rw same (not_two (w.tds.controls t) room)) (λ y. rw y at n)));
    };
    counts = counts_kept m.pages w.pages w.pages w.tds with_control w.streams control_back (λ x. refl) (λ x a f of q. refl) l.counts;
    streams = streams_kept w.pages w.pages w.tds with_control w.streams control_back (λ x e. e) refl l.streams;
    sessions = sessions_kept w.tds with_control w.key_table w.key_table refl (λ x h. h) l.sessions;
  }

pub page_at : (pages : Pages) (t : ℕ) (k : PageKind) (ps : List ℕ) (i q : ℕ) → ArePagesOf pages t k ps → slice_get ps i ≡ Some q → IsPageOf pages t q k
page_at pages t k [] i q h e = cc
page_at pages t k (p ∷ ps) zero q h e = subst (λ (z : ℕ). IsPageOf pages t z k) (some_same p q e) h.0
page_at pages t k (p ∷ ps) (suc i) q h e = page_at pages t k ps i q h.1 e

-- a virtual processor is added to a TD that has room for it
module _ (m : Machine) (w : World) (t p : ℕ) (l : LawfulBut m w p) (page : IsPageOf w.pages t p kind.Tdvpr) (built : (length (w.tds.controls t) == 2) ≡ true) (few : length (w.tds.vps t) < 8) (most : length (w.tds.vps t) < most_vps (w.tds.ops t) (w.tds.vps_expected t)) (apart : list_any (λ q. q == p) (w.tds.vps t) ≡ false) where
  abbrev with_vp : Tds
  with_vp = (add_vp t p w).tds

  vp_back : (x : ℕ) → IsAlive w.pages with_vp x → IsAlive w.pages w.tds x
  vp_back x a = record { kind = a.kind; life = a.life }

  -- the place of the one that is added, and of another one
  place_more : (ps : List ℕ) (i v : ℕ) → list_any (λ q. q == p) ps ≡ false → slice_get (ps ++ p ∷ []) i ≡ Some v → ((v ≡ p) × (i ≡ length ps)) ⊎ (((v == p) ≡ false) × (slice_get ps i ≡ Some v))
  place_more [] zero v n e = inl (sym (some_same p v e), refl)
  place_more [] (suc i) v n e = cc
  place_more (q ∷ qs) zero v n e = inr (subst (λ (z : ℕ). (z == p) ≡ false) (some_same q v e) (by_test (q == p) (λ y. absurd (let no : true ≡ false = rw y at n in cc)) (λ y. y)), e)
  place_more (q ∷ qs) (suc i) v n e = by_test (q == p)
      (λ y. absurd (let no : true ≡ false = rw y at n in cc))
      (λ y. rest (place_more qs i v (rw y at n) e))
    where
      rest : ((v ≡ p) × (i ≡ length qs)) ⊎ (((v == p) ≡ false) × (slice_get qs i ≡ Some v)) → ((v ≡ p) × (suc i ≡ suc (length qs))) ⊎ (((v == p) ≡ false) × (slice_get qs i ≡ Some v))
      rest (inl h) = inl (h.0, ap suc h.1)
      rest (inr h) = inr h

  index_here : (i v : ℕ) → IsAlive w.pages w.tds t → ((v ≡ p) × (i ≡ length (w.tds.vps t))) ⊎ (((v == p) ≡ false) × (slice_get (w.tds.vps t) i ≡ Some v)) → put w.vps.indexes p (length (w.tds.vps t)) v ≡ i
  index_here i v a (inl h) = rw (h.0, same_self p) (sym h.1)
  index_here i v a (inr h) = rw h.0 (l.index t i v a h.1)

  -- a virtual processor of another TD is another page
  index_there : (x i v : ℕ) → (x == t) ≡ false → IsAlive w.pages w.tds x → slice_get (w.tds.vps x) i ≡ Some v → put w.vps.indexes p (length (w.tds.vps t)) v ≡ i
  index_there x i v n a e =
      let its : IsPageOf w.pages x v kind.Tdvpr = page_at w.pages x kind.Tdvpr (w.tds.vps x) i v (l.tds.vps x a) e in
      let apart' : (v == p) ≡ false = by_test (v == p)
      (λ y. absurd (let same : x ≡ t = sym its.owner ∙ (ap w.pages.owners (eqb-true v p y) ∙ page.owner) in let no : true ≡ false = sym (eq-eqb x t same) ∙ n in cc))
      (λ y. y) in
      rw apart' (l.index x i v a e)

  pub vp_kept : Lawful m (add_vp t p w)
  vp_kept = record {
    size = l.size;
    pages = l.pages;
    tds = record {
      controls = λ x a. l.tds.controls x (vp_back x a);
      vps = λ x a. by_test (x == t)
          (λ y. rw y (subst (λ (z : ℕ). ArePagesOf w.pages z kind.Tdvpr (w.tds.vps t ++ p ∷ [])) (sym (eqb-true x t y)) (more_pages w.pages t p kind.Tdvpr page (w.tds.vps t) (subst (λ (z : ℕ). ArePagesOf w.pages z kind.Tdvpr (w.tds.vps z)) (eqb-true x t y) (l.tds.vps x (vp_back x a))))))
          (λ n. rw n (l.tds.vps x (vp_back x a)));
      vps_few = λ x. by_test (x == t) (λ y. rw y (omega (arith, length-append (w.tds.vps t) (p ∷ [])))) (λ n. rw n (l.tds.vps_few x));
      vps_differ = λ x. by_test (x == t) (λ y. rw y (all_differ_more p (w.tds.vps t) apart (l.tds.vps_differ t))) (λ n. rw n (l.tds.vps_differ x));
      vps_expected = l.tds.vps_expected;
      streams = λ x a. l.tds.streams x (vp_back x a);
      streams_few = l.tds.streams_few;
      streams_differ = l.tds.streams_differ;
      epoch = l.tds.epoch;
      epoch_begun = l.tds.epoch_begun;
    };
    lists = record {
      control = others_listed w.pages w.tds with_vp vp_back t p kind.Tdvpr page kind.Tdcx (λ e. cc) w.tds.controls l.control;
      vp = more_listed w.pages w.tds with_vp vp_back t p kind.Tdvpr page w.tds.vps l.vp;
      stream = others_listed w.pages w.tds with_vp vp_back t p kind.Tdvpr page kind.Migsc (λ e. cc) w.tds.streams l.stream;
      index = λ x i v a. by_test (x == t)
          (λ y e. (let is : x ≡ t = eqb-true x t y in
          index_here i v (subst (λ (z : ℕ). IsAlive w.pages w.tds z) is (vp_back x a)) (place_more (w.tds.vps t) i v apart (rw y at e))))
          (λ n e. index_there x i v n (vp_back x a) (rw n at e));
    };
    tree = shape_tree w.pages w.tds with_vp vp_back m.pages refl l.tree;
    keys = shape_keys w.pages w.tds with_vp vp_back refl m.hkids w.key_table w.key_table (λ x a. record { kind = a.kind; life = a.life }) (λ h. refl) (λ x a. l.keys.flushed x (vp_back x a)) l.keys;
    beginnings = shape_beginnings w.pages w.tds with_vp vp_back refl w.hidden.rtmrs w.hidden.rtmrs (λ x n. rw (built_other w.tds.controls t x built n) refl) l.beginnings;
    counts = counts_kept m.pages w.pages w.pages w.tds with_vp w.streams vp_back (λ x. refl) (λ x a f of q. refl) l.counts;
    streams = streams_kept w.pages w.pages w.tds with_vp w.streams vp_back (λ x e. e) refl l.streams;
    sessions = sessions_kept w.tds with_vp w.key_table w.key_table refl
        (λ x h. by_test (x == t) (λ y. (let same : x ≡ t = eqb-true x t y in rw y (h.0, h.1, h.2, h.3, rw same (omega (arith, most, length-append (w.tds.vps t) (p ∷ [])))))) (λ n. rw n h)) l.sessions;
  }

not_private : (k : PageKind) → is_named_kind k ≡ false → same_kind k kind.Reg ≡ false
not_private kind.Reg h = cc
not_private _ h = refl

-- a host page is taken by a TD
module _ (m : Machine) (w : World) (p : ℕ) (k : PageKind) (t level number : ℕ) (host : w.pages.kinds p ≡ kind.Nda) (small : p < m.pages) (l : Lawful m w) (not_host : k ≢ kind.Nda) (not_tdr : k ≢ kind.Tdr) (root : w.pages.kinds t ≡ kind.Tdr) where
  abbrev pub now : Pages
  now = taken m.pages w.pages p k t level number host l.pages

  pub taken_back : (x : ℕ) → IsAlive now w.tds x → IsAlive w.pages w.tds x
  taken_back x a = record { kind = by_test (x == p) (λ y. absurd (not_tdr (rw y at a.kind))) (λ n. rw n at a.kind); life = a.life }

  pub taken_forth : (x : ℕ) → IsAlive w.pages w.tds x → IsAlive now w.tds x
  taken_forth x a = record { kind = rw (other m.pages w.pages p k t level number host l.pages x kind.Tdr a.kind (λ e. cc)) a.kind; life = a.life }

  -- a secure EPT page or a private page is named by the entry at its node
  abbrev pub IsNamed : ℕ → Pages → Type 0
  IsNamed q pages = (is_free (w.tds.entries (pages.owners q) (pages.levels q) (pages.numbers q)).state ≡ false) × ((w.tds.entries (pages.owners q) (pages.levels q) (pages.numbers q)).page ≡ q) × (pages.levels q ≤ 3)

  pub named_there : (q : ℕ) → (q == p) ≡ false → is_named_kind (now.kinds q) ≡ true → IsAlive now w.tds (now.owners q) → IsNamed q now
  named_there q n e a =
      let e' : is_named_kind (w.pages.kinds q) ≡ true = rw n at e in
      let a' : IsAlive now w.tds (w.pages.owners q) = rw n at a in
      rw n (l.tree.named q e' (taken_back (w.pages.owners q) a'))

  pub taken_page_facts : LawfulPages m.pages now
  taken_page_facts = taken_pages m.pages w.pages p k t level number host l.pages small not_host (λ e. absurd (not_tdr e)) (rw (other m.pages w.pages p k t level number host l.pages t kind.Tdr root (λ e. cc)) root)

  pub taken_tds : LawfulTds now w.tds
  taken_tds = record {
    controls = λ x a. taken_controls m.pages w.pages p k t level number host l.pages x (w.tds.controls x) (l.tds.controls x (taken_back x a));
    vps = λ x a. taken_list m.pages w.pages p k t level number host l.pages x kind.Tdvpr (w.tds.vps x) (λ e. cc) (l.tds.vps x (taken_back x a));
    vps_few = l.tds.vps_few;
    vps_differ = l.tds.vps_differ;
    vps_expected = l.tds.vps_expected;
    streams = λ x a. taken_list m.pages w.pages p k t level number host l.pages x kind.Migsc (w.tds.streams x) (λ e. cc) (l.tds.streams x (taken_back x a));
    streams_few = l.tds.streams_few;
    streams_differ = l.tds.streams_differ;
    epoch = l.tds.epoch;
    epoch_begun = l.tds.epoch_begun;
  }

  -- each other page is in its list
  taken_listed : (lists : ℕ → List ℕ) (j : PageKind) → ((q : ℕ) → IsListed w.pages w.tds lists j q) → (q : ℕ) → (q == p) ≡ false → IsListed now w.tds lists j q
  taken_listed lists j h q n e a =
      let e' : w.pages.kinds q ≡ j = rw n at e in
      let a' : IsAlive now w.tds (w.pages.owners q) = rw n at a in
      rw n (h q e' (taken_back (w.pages.owners q) a'))

  pub taken_all_listed : (lists : ℕ → List ℕ) (j : PageKind) → k ≢ j → ((q : ℕ) → IsListed w.pages w.tds lists j q) → (q : ℕ) → IsListed now w.tds lists j q
  taken_all_listed lists j apart h q e a = by_test (q == p) (λ y. absurd (apart (rw y at e))) (λ n. taken_listed lists j h q n e a)

  -- what an entry of a level says of the page that it names
  pub taken_upper : (x j n : ℕ) → IsAlive now w.tds x → is_free (w.tds.entries x (suc j) n).state ≡ false
      → (is_node (w.tds.entries x (suc j) n).state ≡ true) × IsNodeOf now x (w.tds.entries x (suc j) n).page kind.Ept (suc j) n
  taken_upper x j n a e = let u = l.tree.upper x j n (taken_back x a) e in (u.0, taken_node m.pages w.pages p k t level number host l.pages x _ kind.Ept (suc j) n (λ e. cc) u.1)

  pub taken_lowest : (x n : ℕ) → IsAlive now w.tds x → is_free (w.tds.entries x 0 n).state ≡ false
      → (is_node (w.tds.entries x 0 n).state ≡ false) × IsNodeOf now x (w.tds.entries x 0 n).page kind.Reg 0 n
  taken_lowest x n a e = let u = l.tree.lowest x n (taken_back x a) e in (u.0, taken_node m.pages w.pages p k t level number host l.pages x _ kind.Reg 0 n (λ e. cc) u.1)

  pub taken_keys : LawfulKeys m.hkids now w.tds w.key_table
  taken_keys = record {
    in_range = λ x a. l.keys.in_range x (taken_back x a);
    owner = λ x a. l.keys.owner x (taken_back x a);
    owned = λ h x e. (let o = l.keys.owned h x e in (taken_forth x o.0, o.1));
    flushed = λ x a. l.keys.flushed x (taken_back x a);
  }

  pub taken_kept : is_named_kind k ≡ false → LawfulBut m (take_node p k t level number w) p
  taken_kept not_node = record {
    size = l.size;
    pages = taken_page_facts;
    tds = taken_tds;
    control = taken_listed w.tds.controls kind.Tdcx l.lists.control;
    vp = taken_listed w.tds.vps kind.Tdvpr l.lists.vp;
    stream = taken_listed w.tds.streams kind.Migsc l.lists.stream;
    index = λ x i v a. l.lists.index x i v (taken_back x a);
    tree = record {
      entry = l.tree.entry;
      upper = taken_upper;
      lowest = taken_lowest;
      below = λ x j n few a. l.tree.below x j n few (taken_back x a);
      in_range = l.tree.in_range;
      named = λ q e a. by_test (q == p) (λ y. absurd (let no : true ≡ false = sym (rw y at e) ∙ not_node in cc)) (λ n. named_there q n e a);
    };
    keys = taken_keys;
    beginnings = record { is_new = λ x a n. l.beginnings.is_new x (taken_back x a) n };
    counts = counts_kept m.pages w.pages now w.tds w.tds w.streams taken_back (λ x. refl)
        (λ x a f of. taken_where m.pages w.pages p k t level number host l.pages f x (w.tds.entries x 0) (w.tds.entries x 0) (λ n. refl) (and_left (same_kind k kind.Reg) _ (not_private k not_node))) l.counts;
    streams = streams_kept w.pages now w.tds w.tds w.streams taken_back (λ x e. e) refl l.streams;
    sessions = l.sessions;
  }

-- a TD ends: its HKID is free
module _ (m : Machine) (w : World) (t : ℕ) (alive : IsAlive w.pages w.tds t) (l : Lawful m w) where
  abbrev ended : Tds
  ended = record (w.tds) { lives = put w.tds.lives t life.Teardown }

  not_ended : (x : ℕ) → IsAlive w.pages ended x → (x == t) ≡ false
  not_ended x a = by_test (x == t) (λ y. absurd (let no : true ≡ false = rw y at a.life in cc)) (λ n. n)

  ended_back : (x : ℕ) → IsAlive w.pages ended x → IsAlive w.pages w.tds x
  ended_back x a = record { kind = a.kind; life = rw (not_ended x a) at a.life }

  freed_owned : (h x : ℕ) → (h == w.tds.hkids t) ≡ false → key_owner (w.key_table.keys h) ≡ Some x → IsAlive w.pages ended x × (ended.hkids x ≡ h)
  freed_owned h x n e =
      let o = l.keys.owned h x e in
      let apart : (x == t) ≡ false = by_test (x == t) (λ y. absurd (let same : w.tds.hkids t ≡ h = ap w.tds.hkids (sym (eqb-true x t y)) ∙ o.1 in let no : true ≡ false = sym (eq-eqb h (w.tds.hkids t) (sym same)) ∙ n in cc)) (λ y. y) in
      (record { kind = o.0.kind; life = rw apart o.0.life }, o.1)

  same_ended : SameShape w.tds ended
  same_ended = record { hkids = refl; controls = refl; entries = refl; vps = refl; vps_expected = refl; streams = refl }

  pub ended_kept : Lawful m (set_key (w.tds.hkids t) Unassigned (set_life t life.Teardown w))
  ended_kept = record {
    size = l.size;
    pages = l.pages;
    tds = shape_tds w.pages w.tds ended ended_back same_ended l.tds.epoch l.tds.epoch_begun l.tds;
    lists = shape_lists w.pages w.tds ended ended_back w.vps.indexes same_ended l.lists;
    tree = shape_tree w.pages w.tds ended ended_back m.pages refl l.tree;
    keys = record {
      in_range = λ x a. l.keys.in_range x (ended_back x a);
      owner = λ x a. rw (own_hkid m w t x l alive (ended_back x a) (not_ended x a)) (l.keys.owner x (ended_back x a));
      owned = λ h x. by_test (h == w.tds.hkids t) (λ y e. absurd (let no : None ≡ Some x = rw y at e in cc)) (λ n e. freed_owned h x n (rw n at e));
      flushed = λ x a. rw (not_ended x a, own_hkid m w t x l alive (ended_back x a) (not_ended x a)) (l.keys.flushed x (ended_back x a));
    };
    beginnings = shape_beginnings w.pages w.tds ended ended_back refl w.hidden.rtmrs w.hidden.rtmrs (λ x n. refl) l.beginnings;
    counts = shape_counts w.pages w.tds ended ended_back m.pages w.streams (λ x. refl) refl l.counts;
    streams = streams_kept w.pages w.pages w.tds ended w.streams ended_back (λ x e. e) refl l.streams;
    sessions = sessions_kept w.tds ended w.key_table (set_key (w.tds.hkids t) Unassigned w).key_table refl (λ x h. h) l.sessions;
  }

-- no child page is left
pub childless : (pages : Pages) (t n q : ℕ) → owned_below pages t n ≡ 0 → q < n → (q == t) ≡ false → is_host_in pages q ≡ false → (pages.owners q == t) ≡ false
childless pages t zero q none few n h = absurd (omega arith)
childless pages t (suc k) q none few n h = by_test (q == k)
    (λ y. (let here : q ≡ k = eqb-true q k y in
    let counted : one_if (not (q == t) && (not (is_host_in pages q) && pages.owners q == t)) ≡ 0 = subst (λ (x : ℕ). one_if (not (x == t) && (not (is_host_in pages x) && pages.owners x == t)) ≡ 0) (sym here) (omega arith) in
    by_test (pages.owners q == t) (λ o. absurd (let no : 1 ≡ 0 = rw (n, h, o) at counted in omega arith)) (λ o. o)))
    (λ y. childless pages t k q (omega arith) (let apart : q ≢ k = eqb-false q k y in omega arith) n h)

-- a page of a TD that has ended is given back, its TDR page last
module _ (m : Machine) (w : World) (t p : ℕ) (l : Lawful m w) (root : w.pages.kinds t ≡ kind.Tdr) (dead : (life_number (w.tds.lives t) == life_number life.Teardown) ≡ true) (owned : is_host_in w.pages p ≡ false) (mine : w.pages.owners p ≡ t) (last : (p == t) ≡ true → owned_below w.pages t w.size ≡ 0) where
  abbrev left : Pages
  left = (take_node p kind.Nda 0 0 0 w).pages

  -- a page of a TD that is alive is another one
  elsewhere : (x : ℕ) → IsLive (w.tds.lives x) → (q : ℕ) → w.pages.owners q ≡ x → (q == p) ≡ false
  elsewhere x alive q e = by_test (q == p)
      (λ y. absurd (let same : x ≡ t = sym e ∙ (ap w.pages.owners (eqb-true q p y) ∙ mine) in
      let no : true ≡ false = sym dead ∙ subst (λ (z : ℕ). IsLive (w.tds.lives z)) same alive in cc))
      (λ n. n)

  left_back : (x : ℕ) → IsAlive left w.tds x → IsAlive w.pages w.tds x
  left_back x a = record { kind = by_test (x == p) (λ y. absurd (let no : kind.Nda ≡ kind.Tdr = rw y at a.kind in cc)) (λ n. rw n at a.kind); life = a.life }

  left_forth : (x : ℕ) → IsAlive w.pages w.tds x → IsAlive left w.tds x
  left_forth x a = record { kind = rw (elsewhere x a.life x (l.pages.tdr x a.kind)) a.kind; life = a.life }

  of_another : (x : ℕ) → IsAlive left w.tds x → (q : ℕ) (j : PageKind) → IsPageOf w.pages x q j → j ≢ kind.Nda → (q == p) ≡ false
  of_another x a q j h n = elsewhere x a.life q h.owner

  abbrev kinds_left : (q : ℕ) → (q == p) ≡ false → left.kinds q ≡ w.pages.kinds q
  kinds_left q n = rw n refl

  abbrev owners_left : (q : ℕ) → (q == p) ≡ false → left.owners q ≡ w.pages.owners q
  owners_left q n = rw n refl

  abbrev levels_left : (q : ℕ) → (q == p) ≡ false → left.levels q ≡ w.pages.levels q
  levels_left q n = rw n refl

  abbrev numbers_left : (q : ℕ) → (q == p) ≡ false → left.numbers q ≡ w.pages.numbers q
  numbers_left q n = rw n refl

  -- a page that isn't the host's still has a TDR page as its owner
  root_stays : (q : ℕ) → is_host_in w.pages q ≡ false → (q == p) ≡ false → (w.pages.owners q == p) ≡ false
  root_stays q h n = by_test (w.pages.owners q == p)
      (λ y. absurd (let here : w.pages.owners q ≡ p = eqb-true _ _ y in
      let tdr : w.pages.kinds p ≡ kind.Tdr = ap w.pages.kinds (sym here) ∙ l.pages.owner q h in
      let is : p ≡ t = sym (l.pages.tdr p tdr) ∙ mine in
      let few : q < w.size = subst (λ (k : ℕ). q < k) (sym l.size) (l.pages.in_machine q h) in
      let none = childless w.pages t w.size q (last (eq-eqb p t is)) few (subst (λ (z : ℕ). (q == z) ≡ false) is n) h in
      let no : true ≡ false = sym (eq-eqb (w.pages.owners q) t (here ∙ is)) ∙ none in cc))
      (λ y. y)

  left_owner : (q : ℕ) → (q == p) ≡ false → is_host_in w.pages q ≡ false → left.kinds (left.owners q) ≡ kind.Tdr
  left_owner q n h = rw (n, root_stays q h n) (l.pages.owner q h)

  left_listed : (lists : ℕ → List ℕ) (j : PageKind) → j ≢ kind.Nda → ((q : ℕ) → IsListed w.pages w.tds lists j q) → (q : ℕ) → IsListed left w.tds lists j q
  left_listed lists j owned h q e a = by_test (q == p) (λ y. absurd (owned (sym (rw y at e)))) (λ n. there n)
    where
      there : (q == p) ≡ false → list_any (λ x. x == q) (lists (left.owners q)) ≡ true
      there n =
          let e' : w.pages.kinds q ≡ j = rw n at e in
          let a' : IsAlive left w.tds (w.pages.owners q) = rw n at a in
          rw n (h q e' (left_back (w.pages.owners q) a'))

  -- a secure EPT page or a private page is named by the entry at its node
  named_left : (q : ℕ) → (q == p) ≡ false → is_named_kind (left.kinds q) ≡ true → IsAlive left w.tds (left.owners q)
      → (is_free (w.tds.entries (left.owners q) (left.levels q) (left.numbers q)).state ≡ false) × ((w.tds.entries (left.owners q) (left.levels q) (left.numbers q)).page ≡ q) × (left.levels q ≤ 3)
  named_left q n e a =
      let e' : is_named_kind (w.pages.kinds q) ≡ true = rw n at e in
      let a' : IsAlive left w.tds (w.pages.owners q) = rw n at a in
      rw n (l.tree.named q e' (left_back (w.pages.owners q) a'))

  -- it counts for no TD that is alive
  left_where : (x : ℕ) → IsAlive left w.tds x → (f : EntryState → Bool) → IsOfExported f → (q : ℕ) → is_page_where f left x (w.tds.entries x 0) q ≡ is_page_where f w.pages x (w.tds.entries x 0) q
  left_where x a f of q = by_test (q == p)
      (λ y. rw y (sym (and_right (same_kind (w.pages.kinds q) kind.Reg) _ (and_left (w.pages.owners q == x) _ (by_test (w.pages.owners q == x)
      (λ o. absurd (let no : true ≡ false = sym y ∙ elsewhere x a.life q (eqb-true _ x o) in cc))
      (λ o. o))))))
      (λ n. rw n refl)

  pub left_kept : Lawful m (give_back p w)
  left_kept = record {
    size = l.size;
    pages = record {
      tdr = λ x. by_test (x == p) (λ y e. absurd (let no : kind.Nda ≡ kind.Tdr = rw y at e in cc)) (λ n e. rw n (l.pages.tdr x (rw n at e)));
      owner = λ q. by_test (q == p) (λ y e. absurd (let no : true ≡ false = rw y at e in cc)) (λ n e. left_owner q n (rw n at e));
      in_machine = λ q. by_test (q == p) (λ y e. absurd (let no : true ≡ false = rw y at e in cc)) (λ n e. l.pages.in_machine q (rw n at e));
      host = λ q. by_test (q == p) (λ y e. rw y (refl, refl)) (λ n e. rw n (l.pages.host q (rw n at e)));
      blocked = λ q. by_test (q == p) (λ y. rw y (lit< tt)) (λ n. rw n (l.pages.blocked q));
    };
    tds = record {
      controls = λ x a. controls_kept w.pages left p kinds_left owners_left levels_left numbers_left x (of_another x a) (w.tds.controls x) (l.tds.controls x (left_back x a));
      vps = λ x a. pages_kept w.pages left p kinds_left owners_left levels_left numbers_left x (of_another x a) kind.Tdvpr (w.tds.vps x) (λ e. cc) (l.tds.vps x (left_back x a));
      vps_few = l.tds.vps_few;
      vps_differ = l.tds.vps_differ;
      vps_expected = l.tds.vps_expected;
      streams = λ x a. pages_kept w.pages left p kinds_left owners_left levels_left numbers_left x (of_another x a) kind.Migsc (w.tds.streams x) (λ e. cc) (l.tds.streams x (left_back x a));
      streams_few = l.tds.streams_few;
      streams_differ = l.tds.streams_differ;
      epoch = l.tds.epoch;
      epoch_begun = l.tds.epoch_begun;
    };
    lists = record {
      control = left_listed w.tds.controls kind.Tdcx (λ e. cc) l.lists.control;
      vp = left_listed w.tds.vps kind.Tdvpr (λ e. cc) l.lists.vp;
      stream = left_listed w.tds.streams kind.Migsc (λ e. cc) l.lists.stream;
      index = λ x i v a. l.lists.index x i v (left_back x a);
    };
    tree = record {
      entry = l.tree.entry;
      upper = λ x j n a e. (let u = l.tree.upper x j n (left_back x a) e in (u.0, node_kept w.pages left p kinds_left owners_left levels_left numbers_left x (of_another x a) _ kind.Ept (suc j) n (λ e. cc) u.1));
      lowest = λ x n a e. (let u = l.tree.lowest x n (left_back x a) e in (u.0, node_kept w.pages left p kinds_left owners_left levels_left numbers_left x (of_another x a) _ kind.Reg 0 n (λ e. cc) u.1));
      below = λ x j n few a. l.tree.below x j n few (left_back x a);
      in_range = l.tree.in_range;
      named = λ q e a. by_test (q == p) (λ y. absurd (let no : false ≡ true = rw y at e in cc)) (λ n. named_left q n e a);
    };
    keys = record {
      in_range = λ x a. l.keys.in_range x (left_back x a);
      owner = λ x a. l.keys.owner x (left_back x a);
      owned = λ h x e. (let o = l.keys.owned h x e in (left_forth x o.0, o.1));
      flushed = λ x a. l.keys.flushed x (left_back x a);
    };
    beginnings = record { is_new = λ x a n. l.beginnings.is_new x (left_back x a) n };
    counts = counts_kept m.pages w.pages left w.tds w.tds w.streams left_back (λ x. refl) left_where l.counts;
    streams = streams_kept w.pages left w.tds w.tds w.streams left_back (λ x e. e) refl l.streams;
    sessions = l.sessions;
  }
