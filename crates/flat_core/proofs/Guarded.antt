-- What a processor's own events keep of what its cached translations and its walk say: VP.ENTER, a walk's load, a change of
-- its guest, and a count step.
use Rattle.std.proofs.Common.{◌≡◌, ◌⊎◌, inl, inr, refl, sym, ◌∙◌, subst, ap, ℕ, zero, suc, ◌/◌, ◌^◌, ◌≤◌, List, Option, Some, None, true, false, not, ◌==◌, arith}
use Rattle.std.specs.Prelude.{Contains}
use Rattle.std.proofs.lemmas.Bool.{eq-eqb, eqb-true}
use Rattle.td_words.specs.declared.names.PageKind.TheVariants as kind
use Rattle.td_words.specs.declared.names.LifeState.TheVariants as life
use Rattle.td_words.specs.declared.names.EntryState.{EntryState}
use Rattle.td_words.specs.declared.names.EntryState.TheVariants as entry
use Rattle.td_words.specs.declared.names.Access.{Access}
use Rattle.td_words.specs.declared.names.Access.TheVariants.{Read, Write}
use Rattle.td_words.specs.declared.calls.Call.TheVariants as call
use Rattle.td_words.specs.Packing.{Entry}
use Rattle.flat_core.specs.World.{World}
use Rattle.flat_core.specs.Processor.{Translation, Walk, Guest, new_guest}
use Rattle.flat_core.specs.Opening.{Opening}
use Rattle.flat_core.specs.Row.{Passes}
use Rattle.flat_core.specs.Conditions.{is_elsewhere}
use Rattle.flat_core.specs.Effects.{leave_guest, end_association}
use Rattle.flat_core.specs.Tree.{page_of_gpa, number_at, entry_at, same_state, allows, may_read, may_write}
use Rattle.flat_core.specs.Translations.{cache, is_stale, cache_at_entry, drop_td}
use Rattle.flat_core.specs.Guest.{walk_level, walked_entry, translation_of}
use Rattle.flat_core.specs.Table.{row_of}
use Rattle.flat_core.specs.Lawful.{Lawful, IsPageOf, is_free}
use Rattle.flat_core.specs.Guests.{IsOccupied}
use Rattle.flat_core.specs.Access.{IsHere, IsUsable, inside, outside, node_number, allows_less, is_pending, IsCurrent, IsOnCourse, LawfulTranslations, LawfulEpochs, has_not_run}
use Rattle.flat_core.proofs.Tests.{by_test, tdr_kind}
use Rattle.flat_core.proofs.Passed.{vp_of}
use Rattle.flat_core.proofs.Cached.{dropped, one_more}
use Rattle.flat_core.proofs.Ranges.{configured, has_run}
use Rattle.flat_core.proofs.AccessActs.{occupied-here, current-same}

-- what entries allow

allowed-used : (s : EntryState) (access : Access) → allows s access ≡ true → (is_free s ≡ false) × (is_pending s ≡ false) × (may_read s ≡ true)
allowed-used entry.Mapped access h = (refl, refl, refl)
allowed-used entry.BlockedW access h = (refl, refl, refl)
allowed-used entry.ExportedBlockedW access h = (refl, refl, refl)
allowed-used entry.ExportedDirty access h = (refl, refl, refl)
allowed-used entry.ExportedDirtyBlockedW access h = (refl, refl, refl)
allowed-used entry.Free Read h = cc
allowed-used entry.Free Write h = cc
allowed-used entry.Blocked Read h = cc
allowed-used entry.Blocked Write h = cc
allowed-used entry.Pending Read h = cc
allowed-used entry.Pending Write h = cc
allowed-used entry.PendingBlocked Read h = cc
allowed-used entry.PendingBlocked Write h = cc
allowed-used entry.NlMapped Read h = cc
allowed-used entry.NlMapped Write h = cc
allowed-used entry.NlBlocked Read h = cc
allowed-used entry.NlBlocked Write h = cc

not-less : (s : EntryState) → may_read s ≡ true → allows_less (may_write s) s ≡ true → ⊥
not-less s r h = by_test (may_write s) (λ y. let no : false ≡ true = rw (r, y) at h in cc) (λ y. let no : false ≡ true = rw (r, y) at h in cc)

mapped-node : (s : EntryState) → same_state s entry.NlMapped ≡ true → is_free s ≡ false
mapped-node entry.NlMapped h = refl
mapped-node entry.Free h = cc
mapped-node _ h = cc

-- the GPA page of an entry
last-number : (gpa : ℕ) → number_at 0 gpa ≡ page_of_gpa gpa
last-number gpa = omega arith

-- VP.ENTER on its own processor
module _ (o : Opening) (me u v most : ℕ) (w : World) (la : Lawful o.machine w) (le : LawfulEpochs w) (cs : List Translation) (ps : Passes ((row_of o me (call.VpEnter u v most)).items w)) (a : LawfulTranslations w me cs None) where
  abbrev w' : World
  w' = (row_of o me (call.VpEnter u v most)).act w

  abbrev cs' : List Translation
  cs' = cache_at_entry (w.vps.associated v) (w.vps.lasts v) (w.tds.epochs u) u cs

  v-v : (v == v) ≡ true
  v-v = eq-eqb v v refl

  v-page : IsPageOf w.pages u v kind.Tdvpr
  v-page = vp_of w u v (search)

  u-tdr : w.pages.kinds u ≡ kind.Tdr
  u-tdr = tdr_kind _ (search)

  u-life : w.tds.lives u ≡ life.KeysConfigured
  u-life = configured (w.tds.lives u) (search)

  u-op : has_not_run (w.tds.ops u) ≡ false
  u-op = has_run (w.tds.ops u) (search)

  was-in : (c : Translation) → Contains cs' c → Contains cs c × ((is_stale (w.vps.associated v) (w.vps.lasts v) (w.tds.epochs u) ≡ true) → (c.tdr == u) ≡ false)
  was-in c i = by_test (is_stale (w.vps.associated v) (w.vps.lasts v) (w.tds.epochs u))
      (λ y. let r = dropped u cs c (rw y at i) in (r.0, λ z. r.1))
      (λ y. (rw y at i, λ z. let no : true ≡ false = sym z ∙ y in cc))

  still-here : (t x : ℕ) → IsHere w me t x → IsHere w' me t x
  still-here t x h = record { tdr = h.tdr; life = h.life; page = record { kind = h.page.kind; owner = h.page.owner }; associated = by_test (x == v) (λ y. rw y refl) (λ y. rw y (h.associated)) }

  was-here : (t x : ℕ) → (x == v) ≡ false → IsHere w' me t x → IsHere w me t x
  was-here t x y h = record { tdr = h.tdr; life = h.life; page = record { kind = h.page.kind; owner = h.page.owner }; associated = rw y at h.associated }

  -- one that isn't stale was here
  fresh : (x : Option ℕ) → w.vps.associated v ≡ x → not (is_elsewhere me x) ≡ true → is_stale x (w.vps.lasts v) (w.tds.epochs u) ≡ false → IsHere w me u v × (w.vps.lasts v ≡ w.tds.epochs u)
  fresh None e near f = cc
  fresh (Some lp) e near f =
      let here : lp ≡ me = by_test (lp == me) (λ y. eqb-true lp me y) (λ y. absurd (let no : false ≡ true = rw y at near in cc)) in (
        record { tdr = u-tdr; life = u-life; page = v-page; associated = e ∙ ap Some here },
        by_test (w.vps.lasts v == w.tds.epochs u) (λ y. eqb-true _ _ y) (λ y. absurd (let no : true ≡ false = rw y at f in cc)),
      )

  current-now : (c : Translation) (e : ℕ) → IsCurrent w c e → IsCurrent w' c e
  current-now c e h = current-same w w' c e refl refl refl h

  some-guest : (x y : Guest) → Some x ≡ Some y → x ≡ y
  some-guest x y e = cc

  pub enter-access : LawfulTranslations w' me cs' (Some (new_guest (record { tdr = u; vp = v; most = most })))
  enter-access = record {
    associated = λ c i. (let h = a.associated c (was-in c i).0 in (h.0, still-here c.tdr h.0 h.1));
    newest = λ g e x is n h.
        let same : new_guest (record { tdr = u; vp = v; most = most }) ≡ g = some-guest _ g is in
        let n' : w'.vps.entered v ≡ Some e = ap (λ (z : Guest). w'.vps.entered z.vp) same ∙ n in
        let at : Some (w.tds.epochs u) ≡ Some e = rw v-v at n' in
        let e-is : w.tds.epochs u ≡ e = cc in
        let h' : IsHere w' me u x = subst (λ (z : Guest). IsHere w' me z.tdr x) (sym same) h in
        subst (λ (z : ℕ). w'.vps.lasts x ≤ z) e-is (by_test (x == v) (λ y. rw y (omega arith)) (λ y. rw y (le.last u x u-tdr (record { kind = h'.page.kind; owner = h'.page.owner }))));
    usable = λ c e i us. used-by c e i us;
    walk = λ g k e is at n. (let same : new_guest (record { tdr = u; vp = v; most = most }) ≡ g = some-guest _ g is in let no : None ≡ Some k = ap (λ (z : Guest). z.walk) same ∙ at in cc);
  }
    where
      used-by : (c : Translation) (e : ℕ) → Contains cs' c → IsUsable w' me (Some (new_guest (record { tdr = u; vp = v; most = most }))) c.tdr e → IsCurrent w' c e
      used-by c e i (inside g is td n) =
          let same : new_guest (record { tdr = u; vp = v; most = most }) ≡ g = some-guest _ g is in
          let tdr : u ≡ c.tdr = ap (λ (z : Guest). z.tdr) same ∙ td in
          let n' : w'.vps.entered v ≡ Some e = ap (λ (z : Guest). w'.vps.entered z.vp) same ∙ n in
          let at : Some (w.tds.epochs u) ≡ Some e = rw v-v at n' in
          let e-is : w.tds.epochs u ≡ e = cc in
          let r = was-in c i in
          by_test (is_stale (w.vps.associated v) (w.vps.lasts v) (w.tds.epochs u))
          (λ y. absurd (let off = r.1 y in let on : (c.tdr == u) ≡ true = eq-eqb c.tdr u (sym tdr) in let no : true ≡ false = sym on ∙ off in cc))
          (λ y. let f = fresh (w.vps.associated v) refl (search) y in
          let us : IsUsable w me None u (w.tds.epochs u) = outside v tt f.0 f.1 refl in
          let us' : IsUsable w me None c.tdr e = subst (λ (z : ℕ). IsUsable w me None z e) tdr (subst (λ (z : ℕ). IsUsable w me None u z) e-is us) in
          current-now c e (a.usable c e r.0 us'))
      used-by c e i (outside x other h last at) =
          let off : (x == v) ≡ false = by_test (x == v)
          (λ y. absurd (let own : c.tdr ≡ u = sym h.page.owner ∙ (ap w.pages.owners (eqb-true x v y) ∙ v-page.owner) in let on : (u == c.tdr) ≡ true = eq-eqb u c.tdr (sym own) in let no : true ≡ false = sym on ∙ other in cc)) (λ z. z) in
          let last' : w.vps.lasts x ≡ w.tds.epochs c.tdr = (let z : w'.vps.lasts x ≡ w.vps.lasts x = rw off refl in sym z ∙ last) in
          current-now c e (a.usable c e (was-in c i).0 (outside x tt (was-here c.tdr x off h) last' at))

-- VP.FLUSH on its own processor: what is left in the list is of other TDs
module _ (o : Opening) (me u v : ℕ) (w : World) (le : LawfulEpochs w) (cs : List Translation) (ps : Passes ((row_of o me (call.VpFlush u v)).items w)) (a : LawfulTranslations w me cs None) where
  pub flush-access : LawfulTranslations (end_association v w) me (drop_td u cs) None
  flush-access =
      let owner : w.pages.owners v ≡ u = (vp_of w u v (search)).owner in
      record {
        associated = λ c i.
            let d = dropped u cs c i in
            let h = a.associated c d.0 in
            let n : (h.0 == v) ≡ false = by_test (h.0 == v)
            (λ y. absurd (let same : c.tdr ≡ u = sym h.1.page.owner ∙ (ap w.pages.owners (eqb-true h.0 v y) ∙ owner) in let no : true ≡ false = sym (eq-eqb c.tdr u same) ∙ d.1 in cc))
            (λ z. z) in
            (h.0, record { tdr = h.1.tdr; life = h.1.life; page = record { kind = h.1.page.kind; owner = h.1.page.owner }; associated = rw n (h.1.associated) });
        newest = λ g e x is n h. cc;
        usable = λ c e i us. current-same w (end_association v w) c e refl refl refl (a.usable c e (dropped u cs c i).0 (used-before c.tdr e us));
        walk = λ g k e is at n. cc;
      }
    where
      used-before : (t e : ℕ) → IsUsable (end_association v w) me None t e → IsUsable w me None t e
      used-before t e (inside g is td n) = cc
      used-before t e (outside x other h last at) =
          let was : w.vps.associated x ≡ Some me = by_test (x == v) (λ y. absurd (let no : None ≡ Some me = rw y at h.associated in cc)) (λ z. rw z at h.associated) in
          outside x tt (record { tdr = h.tdr; life = h.life; page = record { kind = h.page.kind; owner = h.page.owner }; associated = was }) last at

-- a guest's own changes

some-one : (x y : Guest) → Some x ≡ Some y → x ≡ y
some-one x y e = cc

-- of its operation
pub guest-changed : (w : World) (p : ℕ) (cs : List Translation) (g g' : Guest) → g'.tdr ≡ g.tdr → g'.vp ≡ g.vp → (g'.walk ≡ g.walk) ⊎ (g'.walk ≡ None) → LawfulTranslations w p cs (Some g) → LawfulTranslations w p cs (Some g')
guest-changed w p cs g g' t v wk a = record {
  associated = a.associated;
  newest = λ x e y is n h.
      let same : g' ≡ x = some-one g' x is in
      a.newest g e y refl (ap w.vps.entered (sym v) ∙ (ap (λ (z : Guest). w.vps.entered z.vp) same ∙ n)) (subst (λ (z : ℕ). IsHere w p z y) t (subst (λ (z : Guest). IsHere w p z.tdr y) (sym same) h));
  usable = λ c e i us. a.usable c e i (used-by c.tdr e us);
  walk = λ x k e is at n.
      let same : g' ≡ x = some-one g' x is in
      let at' : g'.walk ≡ Some k = ap (λ (z : Guest). z.walk) same ∙ at in
      let n' : w.vps.entered g.vp ≡ Some e = ap w.vps.entered (sym v) ∙ (ap (λ (z : Guest). w.vps.entered z.vp) same ∙ n) in
      elim wk [
        | inl y ↦ subst (λ (z : Guest). IsOnCourse w z.tdr k e) same (subst (λ (z : ℕ). IsOnCourse w z k e) (sym t) (a.walk g k e refl (sym y ∙ at') n'))
        | inr y ↦ absurd (let no : None ≡ Some k = sym y ∙ at' in cc)
      ];
}
  where
    used-by : (t0 e : ℕ) → IsUsable w p (Some g') t0 e → IsUsable w p (Some g) t0 e
    used-by t0 e (inside x is td n) =
        let same : g' ≡ x = some-one g' x is in
        inside g refl (sym t ∙ (ap (λ (z : Guest). z.tdr) same ∙ td)) (ap w.vps.entered (sym v) ∙ (ap (λ (z : Guest). w.vps.entered z.vp) same ∙ n))
    used-by t0 e (outside x other h last at) = outside x (ap (λ (z : ℕ). z == t0) (sym t) ∙ other) h last at

-- the count step: what may be used after it could be used before
pub left-access : (w : World) (p : ℕ) (cs : List Translation) (g : Guest) (occ : IsOccupied w p g.tdr g.vp) → LawfulEpochs w → LawfulTranslations w p cs (Some g) → LawfulTranslations (leave_guest g.vp w) p cs None
left-access w p cs g occ le a = record {
  associated = λ c i. (let h = a.associated c i in (h.0, record { tdr = h.1.tdr; life = h.1.life; page = record { kind = h.1.page.kind; owner = h.1.page.owner }; associated = h.1.associated }));
  newest = λ x e v is n h. cc;
  usable = λ c e i us. current-same w (leave_guest g.vp w) c e refl refl refl (a.usable c e i (used-by c.tdr e us));
  walk = λ x k e is at n. cc;
}
  where
    back : (t v : ℕ) → IsHere (leave_guest g.vp w) p t v → IsHere w p t v
    back t v h = record { tdr = h.tdr; life = h.life; page = record { kind = h.page.kind; owner = h.page.owner }; associated = h.associated }

    used-by : (t e : ℕ) → IsUsable (leave_guest g.vp w) p None t e → IsUsable w p (Some g) t e
    used-by t e (inside x is td n) = cc
    used-by t e (outside v other h last at) = by_test (g.tdr == t)
        (λ y. let tt' : g.tdr ≡ t = eqb-true g.tdr t y in
        let h' : IsHere w p g.tdr v = subst (λ (z : ℕ). IsHere w p z v) (sym tt') (back t v h) in
        let top = a.newest g occ.epoch v refl occ.entered h' in
        let near = le.near g.tdr g.vp occ.epoch occ.tdr (record { kind = occ.page.kind; owner = occ.page.owner }) occ.entered in
        let epoch : w.tds.epochs g.tdr ≡ w.tds.epochs t = ap w.tds.epochs tt' in
        let low = near.0 in
        let same : occ.epoch ≡ e = omega (arith, top, low, last, at, epoch) in
        inside g refl tt' (occ.entered ∙ ap Some same))
        (λ y. outside v y (back t v h) last at)

-- the load of an entry
module _ (w : World) (p : ℕ) (cs : List Translation) (g : Guest) (occ : IsOccupied w p g.tdr g.vp) (access : Access) (gpa : ℕ) (a : LawfulTranslations w p cs (Some g)) where
  abbrev e0 : Entry
  e0 = walked_entry w g gpa

  -- a translation of it
  pub filled : allows e0.state access ≡ true → walk_level g.walk ≡ 0 → (g' : Guest) → g'.tdr ≡ g.tdr → g'.vp ≡ g.vp → g'.walk ≡ None → LawfulTranslations w p (cache (translation_of g gpa e0) cs) (Some g')
  filled ok level g' t v wk =
      let c0 : Translation = translation_of g gpa e0 in
      let b = guest-changed w p cs g g' t v (inr wk) a in
      let facts = allowed-used e0.state access ok in
      let at : w.tds.entries g.tdr 0 (page_of_gpa gpa) ≡ e0 = ap (λ (n : ℕ). w.tds.entries g.tdr 0 n) (sym (last-number gpa)) ∙ ap (λ (l : ℕ). entry_at w g.tdr l gpa) (sym level) in
      let now : (e : ℕ) → IsCurrent w c0 e = λ e. record {
        named = record { used = ap (λ (x : Entry). is_free x.state) at ∙ facts.0; page_is = ap (λ (x : Entry). x.page) at };
        rights = λ less. absurd (not-less e0.state facts.2 (ap (λ (x : Entry). allows_less (may_write e0.state) x.state) (sym at) ∙ less));
        accepted = ap (λ (x : Entry). is_pending x.state) at ∙ facts.1;
      } in
      record {
        associated = λ c i. elim (one_more c0 cs c i) [
          | inl y ↦ b.associated c y
          | inr y ↦ (g.vp, subst (λ (z : Translation). IsHere w p z.tdr g.vp) y (occupied-here w p g.tdr g.vp occ))
        ];
        newest = b.newest;
        usable = λ c e i us. elim (one_more c0 cs c i) [
          | inl y ↦ b.usable c e y us
          | inr y ↦ subst (λ (z : Translation). IsCurrent w z e) y (now e)
        ];
        walk = b.walk;
      }

  -- or a step of the walk
  pub stepped : (l : ℕ) → same_state e0.state entry.NlMapped ≡ true → walk_level g.walk ≡ suc l → l ≤ 2 → (g' : Guest) → g'.tdr ≡ g.tdr → g'.vp ≡ g.vp → g'.walk ≡ Some (record { gpa_page = page_of_gpa gpa; level = l; page = e0.page }) → LawfulTranslations w p cs (Some g')
  stepped l ok level low g' t v wk =
      let k0 : Walk = record { gpa_page = page_of_gpa gpa; level = l; page = e0.page } in
      let n0 : Guest = record g' { walk = None } in
      let b = guest-changed w p cs g n0 t v (inr refl) a in
      let number : number_at (suc l) gpa ≡ node_number k0 = node-number l gpa low in
      let at : w.tds.entries g.tdr (suc l) (node_number k0) ≡ e0 = ap (λ (n : ℕ). w.tds.entries g.tdr (suc l) n) (sym number) ∙ ap (λ (x : ℕ). entry_at w g.tdr x gpa) (sym level) in
      record {
        associated = b.associated;
        newest = λ x e y is n h. (let same : g' ≡ x = some-one g' x is in b.newest n0 e y refl (ap (λ (z : Guest). w.vps.entered z.vp) same ∙ n) (subst (λ (z : Guest). IsHere w p z.tdr y) (sym same) h));
        usable = λ c e i us. b.usable c e i (used-by n0 c.tdr e us);
        walk = λ x k e is at' n.
            let same : g' ≡ x = some-one g' x is in
            let which : Some k0 ≡ Some k = sym wk ∙ (ap (λ (z : Guest). z.walk) same ∙ at') in
            let k-is : k0 ≡ k = cc in
            let tdr : g.tdr ≡ x.tdr = sym t ∙ ap (λ (z : Guest). z.tdr) same in
            subst (λ (z : ℕ). IsOnCourse w z k e) tdr (subst (λ (z : Walk). IsOnCourse w g.tdr z e) k-is (record {
              level = low;
              named = record { used = ap (λ (y : Entry). is_free y.state) at ∙ mapped-node e0.state ok; page_is = ap (λ (y : Entry). y.page) at };
              rights = λ off. absurd (let no : true ≡ false = sym ok ∙ (ap (λ (y : Entry). same_state y.state entry.NlMapped) (sym at) ∙ off) in cc);
            }));
      }
    where
      used-by : (n0 : Guest) (t0 e : ℕ) → IsUsable w p (Some g') t0 e → IsUsable w p (Some (record g' { walk = None })) t0 e
      used-by n0 t0 e (inside x is td n) = (let same : g' ≡ x = some-one g' x is in inside (record g' { walk = None }) refl (ap (λ (z : Guest). z.tdr) same ∙ td) (ap (λ (z : Guest). w.vps.entered z.vp) same ∙ n))
      used-by n0 t0 e (outside x other h last at) = outside x other h last at

      node-number : (l gpa : ℕ) → l ≤ 2 → number_at (suc l) gpa ≡ gpa / 4096 / 512 ^ suc l
      node-number zero gpa low = omega arith
      node-number (suc zero) gpa low = omega arith
      node-number (suc (suc zero)) gpa low = omega arith
      node-number (suc (suc (suc l))) gpa low = absurd (omega (arith, low))
