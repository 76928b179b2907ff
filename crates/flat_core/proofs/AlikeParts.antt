-- What the words that acts are written in keep of two worlds that differ in private words alone.
use Rattle.std.proofs.Common.{◌≡◌, refl, sym, ◌∙◌, subst, ap, ℕ, List, [], ◌∷◌, ◌++◌, length, true, false, not, ◌==◌, ◌||◌}
use Rattle.std.specs.Prelude.{Some, None}
use Rattle.std.proofs.lemmas.Bool.{eqb-true}
use Rattle.td_words.specs.declared.names.PageKind.{PageKind}
use Rattle.td_words.specs.declared.names.PageKind.TheVariants as kind
use Rattle.td_words.specs.declared.names.EntryState.{EntryState}
use Rattle.td_words.specs.declared.names.OpState.{OpState}
use Rattle.td_words.specs.declared.names.VcpuState.TheVariants as vcpu
use Rattle.td_words.specs.Packing.{Key}
use Rattle.flat_core.specs.World.{World, Pages, Tds, Vps, KeyTable, Hidden, put, free_entry}
use Rattle.flat_core.specs.Conditions.{same_kind, is_host_in}
use Rattle.flat_core.specs.Effects.{put_in, take_node, map_page, set_page, measure, clear_page, give_back, set_entry, unmap_page, set_key, set_op, add_vp}
use Rattle.flat_core.specs.Alike.{Alike, is_public, is_being_built}
use Rattle.flat_core.proofs.Tests.{by_test, host_kind}

-- a host page's words are public
pub host_public : (pages : Pages) (tds : Tds) (p : ℕ) → is_host_in pages p ≡ true → is_public pages tds p ≡ true
host_public pages tds p h = let e : pages.kinds p ≡ kind.Nda = host_kind _ h in rw e refl

module _ (v w : World) (a : Alike v w) where
  -- facts of TDs, which leave operation states
  pub tds_alike : (f : Tds → Tds) → ((x : Tds) → (f x).ops ≡ x.ops) → Alike (record v { tds = f v.tds }) (record w { tds = f w.tds })
  tds_alike f ops = record {
    size = a.size;
    pages = a.pages;
    words = λ p i known. a.words p i (subst (λ (o : ℕ → OpState). (not (same_kind (v.pages.kinds p) kind.Reg) || is_being_built (o (v.pages.owners p))) ≡ true) (ops v.tds) known);
    tds = ap f a.tds;
    vps = a.vps;
    streams = a.streams;
    key_table = a.key_table;
    told = a.told;
    bundles = a.bundles;
  }

  -- an operation state, in which no page's words become public
  pub op_alike : (t : ℕ) (s : OpState) → (is_being_built s ≡ true → is_being_built (v.tds.ops t) ≡ true) → Alike (set_op t s v) (set_op t s w)
  op_alike t s built = record {
    size = a.size;
    pages = a.pages;
    words = λ p i known. a.words p i (by_test (same_kind (v.pages.kinds p) kind.Reg)
        (λ y. by_test (v.pages.owners p == t)
        (λ z. let here : v.pages.owners p ≡ t = eqb-true _ t z in let now : is_being_built s ≡ true = rw (y, z) at known in rw (y, here) (built now))
        (λ n. rw n at known))
        (λ n. rw n refl));
    tds = ap (λ (x : Tds). record x { ops = put x.ops t s }) a.tds;
    vps = a.vps;
    streams = a.streams;
    key_table = a.key_table;
    told = a.told;
    bundles = a.bundles;
  }

  pub keys_alike : (f g : ℕ → Key) → f ≡ g → Alike (record v { key_table = record (v.key_table) { keys = f } }) (record w { key_table = record (w.key_table) { keys = g } })
  keys_alike f g e = record {
    size = a.size;
    pages = a.pages;
    words = a.words;
    tds = a.tds;
    vps = a.vps;
    streams = a.streams;
    key_table = ap (λ (x : KeyTable). record x { keys = f }) a.key_table ∙ ap (λ (x : ℕ → Key). record (w.key_table) { keys = x }) e;
    told = a.told;
    bundles = a.bundles;
  }

  pub key_alike : (h i : ℕ) (k : Key) → h ≡ i → Alike (set_key h k v) (set_key i k w)
  key_alike h i k e = keys_alike (put v.key_table.keys h k) (put w.key_table.keys i k) (ap (λ (x : KeyTable). put x.keys h k) a.key_table ∙ ap (λ (x : ℕ). put w.key_table.keys x k) e)

  -- virtual processors, and what is private
  pub vps_alike : (f g : Vps) → f ≡ g → Alike (record v { vps = f }) (record w { vps = g })
  vps_alike f g e = record { size = a.size; pages = a.pages; words = a.words; tds = a.tds; vps = e; streams = a.streams; key_table = a.key_table; told = a.told; bundles = a.bundles }

  pub hidden_alike : (f g : Hidden) → Alike (record v { hidden = f }) (record w { hidden = g })
  hidden_alike f g = record { size = a.size; pages = a.pages; words = a.words; tds = a.tds; vps = a.vps; streams = a.streams; key_table = a.key_table; told = a.told; bundles = a.bundles }

  -- a host page that is taken, a page that is cleared, and one that is given back
  pub taken_alike : (p : ℕ) (k : PageKind) (t level number : ℕ) → v.pages.kinds p ≡ kind.Nda → Alike (take_node p k t level number v) (take_node p k t level number w)
  taken_alike p k t level number host = record {
    size = a.size;
    pages = ap (λ (x : Pages). record { kinds = put x.kinds p k; owners = put x.owners p t; blocked = put x.blocked p 0; levels = put x.levels p level; numbers = put x.numbers p number }) a.pages;
    words = λ q i known. a.words q i (by_test (q == p)
        (λ y. host_public v.pages v.tds q (let here : q ≡ p = eqb-true q p y in rw (here, host) refl))
        (λ n. rw n at known));
    tds = a.tds;
    vps = a.vps;
    streams = a.streams;
    key_table = a.key_table;
    told = a.told;
    bundles = a.bundles;
  }

  pub cleared_alike : (p : ℕ) → Alike (clear_page p v) (clear_page p w)
  cleared_alike p = record {
    size = a.size;
    pages = a.pages;
    words = λ q i known. by_test (q == p) (λ y. rw y refl) (λ n. rw n (a.words q i known));
    tds = a.tds;
    vps = a.vps;
    streams = a.streams;
    key_table = a.key_table;
    told = a.told;
    bundles = a.bundles;
  }

  pub left_alike : (p : ℕ) → Alike (give_back p v) (give_back p w)
  left_alike p = record {
    size = a.size;
    pages = ap (λ (x : Pages). record { kinds = put x.kinds p kind.Nda; owners = put x.owners p 0; blocked = put x.blocked p 0; levels = put x.levels p 0; numbers = put x.numbers p 0 }) a.pages;
    words = λ q i known. by_test (q == p) (λ y. rw y refl) (λ n. rw n (a.words q i (rw n at known)));
    tds = a.tds;
    vps = a.vps;
    streams = a.streams;
    key_table = a.key_table;
    told = a.told;
    bundles = a.bundles;
  }

-- a page that is filled with the same words; and one that becomes the page that an entry of a TD names
pub filled_alike : (v w : World) (p : ℕ) (f g : ℕ → ℕ) → ((i : ℕ) → f i ≡ g i) → Alike v w → Alike (set_page p f v) (set_page p g w)
filled_alike v w p f g same a = record {
  size = a.size;
  pages = a.pages;
  words = λ q i known. by_test (q == p) (λ y. rw y (same i)) (λ n. rw n (a.words q i known));
  tds = a.tds;
  vps = a.vps;
  streams = a.streams;
  key_table = a.key_table;
  told = a.told;
  bundles = a.bundles;
}

-- a page that leaves the map
pub unmapped_alike : (v w : World) (t level n : ℕ) → Alike v w → Alike (unmap_page t level n v) (unmap_page t level n w)
unmapped_alike v w t level n a =
    let v1 : World = set_entry t level n free_entry v in
    let w1 : World = set_entry t level n free_entry w in
    let a1 : Alike v1 w1 = tds_alike v w a (λ x. record x { entries = put x.entries t (put_in (x.entries t) level n free_entry) }) (λ x. refl) in
    subst (λ (p : ℕ). Alike (unmap_page t level n v) (give_back p w1)) (ap (λ (x : Tds). (x.entries t level n).page) a.tds) (left_alike v1 w1 a1 (v.tds.entries t level n).page)

-- one that is private may be filled with any words
pub hidden_filled_alike : (v w : World) (p : ℕ) (f g : ℕ → ℕ) → is_public v.pages v.tds p ≡ false → Alike v w → Alike (set_page p f v) (set_page p g w)
hidden_filled_alike v w p f g hidden a = record {
  size = a.size;
  pages = a.pages;
  words = λ q i known. by_test (q == p)
      (λ y. absurd (let no : true ≡ false = sym known ∙ (ap (is_public v.pages v.tds) (eqb-true q p y) ∙ hidden) in cc))
      (λ n. rw n (a.words q i known));
  tds = a.tds;
  vps = a.vps;
  streams = a.streams;
  key_table = a.key_table;
  told = a.told;
  bundles = a.bundles;
}

pub mapped_alike : (v w : World) (p : ℕ) (k : PageKind) (s : EntryState) (t level number : ℕ) → v.pages.kinds p ≡ kind.Nda → Alike v w → Alike (map_page p k s t level number v) (map_page p k s t level number w)
mapped_alike v w p k s t level number host a =
    tds_alike (take_node p k t level number v) (take_node p k t level number w) (taken_alike v w a p k t level number host)
    (λ x. record x { entries = put x.entries t (put_in (x.entries t) level number (record { state = s; page = p; mark = 0 })) }) (λ x. refl)

-- the same is measured
pub measured_alike : (v w : World) (t : ℕ) (xs ys : List ℕ) → xs ≡ ys → Alike v w → Alike (measure t xs v) (measure t ys w)
measured_alike v w t xs ys e a =
    subst (λ (zs : List ℕ). Alike (measure t xs v) (measure t zs w)) e (tds_alike v w a (λ x. record x { measured = put x.measured t (x.measured t ++ xs) }) (λ x. refl))

-- a TDVPR page that is added
abbrev pub with_vp : Vps → ℕ → List ℕ → Vps
with_vp x p vs = record {
  indexes = put x.indexes p (length vs);
  states = put x.states p vcpu.Created;
  associated = put x.associated p None;
  lasts = put x.lasts p 0;
  positions = put x.positions p 0;
  exported = put x.exported p 0;
  entered = put x.entered p None;
}

-- one that enters the guest
abbrev pub with_entered : Vps → (me v epoch : ℕ) → Vps
with_entered x me v e = record x { associated = put x.associated v (Some me); lasts = put x.lasts v e; entered = put x.entered v (Some e) }

pub added_alike : (v w : World) (t p : ℕ) → Alike v w → Alike (add_vp t p v) (add_vp t p w)
added_alike v w t p a =
    let f : Tds → Tds = λ x. record x { vps = put x.vps t (x.vps t ++ p ∷ []) } in
    let v1 : World = record v { tds = f v.tds } in
    let w1 : World = record w { tds = f w.tds } in
    let a1 : Alike v1 w1 = tds_alike v w a f (λ x. refl) in
    let v2 : World = record v1 { vps = with_vp v.vps p (v.tds.vps t) } in
    let w2 : World = record w1 { vps = with_vp w.vps p (w.tds.vps t) } in
    let a2 : Alike v2 w2 = vps_alike v1 w1 a1 _ _ (ap (λ (x : Vps). with_vp x p (v.tds.vps t)) a.vps ∙ ap (λ (x : Tds). with_vp w.vps p (x.vps t)) a.tds) in
    hidden_alike v2 w2 a2 (add_vp t p v).hidden (add_vp t p w).hidden
