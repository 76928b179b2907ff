-- What the act of each row, and a count step, keep of epochs and associations.
use Rattle.std.proofs.Common.{◌≡◌, ◌⊎◌, inl, inr, refl, sym, ◌∙◌, subst, ap, ℕ, ◌+◌, ◌-◌, ◌≤◌, Some, None, true, false, ◌==◌, arith, ◌≢◌, suc, Option}
use Rattle.std.specs.List.{list_any}
use Rattle.std.proofs.lemmas.Bool.{eqb-true, eqb-false}
use Rattle.td_words.specs.declared.names.PageKind.{PageKind}
use Rattle.td_words.specs.declared.names.PageKind.TheVariants as kind
use Rattle.td_words.specs.declared.names.LifeState.{LifeState}
use Rattle.td_words.specs.declared.names.LifeState.TheVariants as life
use Rattle.td_words.specs.declared.names.OpState.{OpState}
use Rattle.td_words.specs.declared.names.OpState.TheVariants as op
use Rattle.td_words.specs.declared.machines.Machine.{Machine}
use Rattle.td_words.specs.declared.calls.Call.{Call}
use Rattle.td_words.specs.NameNumber.{life_number}
use Rattle.td_words.specs.Packing.{AssignedTo}
use Rattle.flat_core.specs.World.{World, put, Pages}
use Rattle.flat_core.specs.Opening.{Opening}
use Rattle.flat_core.specs.Row.{Passes}
use Rattle.flat_core.specs.Conditions.{same_kind}
use Rattle.flat_core.specs.Effects.{take_page, clear_page, new_td, set_key, set_epoch, enter_guest, end_association, leave_guest, take_node}
use Rattle.flat_core.specs.Table.{row_of}
use Rattle.flat_core.specs.Lawful.{Lawful, IsAlive, IsPageOf}
use Rattle.flat_core.specs.Access.{LawfulEpochs, has_not_run}
use Rattle.flat_core.proofs.Tests.{by_test, host_kind}
use Rattle.flat_core.proofs.Trackings.{none_at}
use Rattle.flat_core.proofs.Shapes.{Aspect, aspect_of, OpGoes, unrun, runs, restored, EpochGoes, stay, begin, Begins, ChangesLife, ChangesOp, Takes, Enters, Advances, Shape, notes, fills, takes, reclaims, unmaps, begins, changes_life, changes_op, changes_vp, enters, flushes, changes_entry, advances, ActShape, one, moves, page_by_page, by_shapes, unmaps_kept}
use Rattle.flat_core.proofs.ShapeOf.{shape_of}
use Rattle.flat_core.proofs.Sparing.{idle_off}

-- a virtual processor as it was, or one that is new
data VpCase (w w' : World) (t v : ℕ) : Type 0 where
  old : w.pages.kinds t ≡ kind.Tdr → IsPageOf w.pages t v kind.Tdvpr → w'.vps.lasts v ≡ w.vps.lasts v → w'.vps.entered v ≡ w.vps.entered v → w'.vps.associated v ≡ w.vps.associated v
      → (w'.tds.epochs t ≡ w.tds.epochs t) ⊎ ((w.tds.epochs t ≡ 0) × (w'.tds.epochs t ≡ 1))
      → ((p : ℕ) → w.vps.associated v ≡ Some p → w.tds.lives t ≡ life.KeysConfigured → has_not_run (w.tds.ops t) ≡ false → (w'.tds.lives t ≡ life.KeysConfigured) × (has_not_run (w'.tds.ops t) ≡ false))
      → VpCase w w' t v
  new : w'.vps.lasts v ≡ 0 → w'.vps.entered v ≡ None → w'.vps.associated v ≡ None → VpCase w w' t v

module _ (w w' : World) (le : LawfulEpochs w) (each : (t v : ℕ) → w'.pages.kinds t ≡ kind.Tdr → IsPageOf w'.pages t v kind.Tdvpr → VpCase w w' t v)
    (early : (t : ℕ) → w'.pages.kinds t ≡ kind.Tdr → w'.tds.ops t ≡ op.Uninitialized → w'.tds.epochs t ≡ 0) where
  last-of : (t v : ℕ) → VpCase w w' t v → w'.vps.lasts v ≤ w'.tds.epochs t
  last-of t v (old k pa ls et assoc (inl ep) run) = (let l = le.last t v k pa in omega (arith, l, ls, ep))
  last-of t v (old k pa ls et assoc (inr ep) run) = (let l = le.last t v k pa in let a = ep.0 in let b = ep.1 in omega (arith, l, ls, a, b))
  last-of t v (new ls et assoc) = omega (arith, ls)

  near-of : (t v e : ℕ) → VpCase w w' t v → w'.vps.entered v ≡ Some e → (e ≤ w'.tds.epochs t) × (w'.tds.epochs t ≤ suc e)
  near-of t v e (old k pa ls et assoc (inl ep) run) n = (let x = le.near t v e k pa (sym et ∙ n) in let a = x.0 in let b = x.1 in (omega (arith, a, ep), omega (arith, b, ep)))
  near-of t v e (old k pa ls et assoc (inr ep) run) n = (let x = le.near t v e k pa (sym et ∙ n) in let a = x.0 in let c = ep.0 in let d = ep.1 in (omega (arith, a, c, d), omega (arith, d)))
  near-of t v e (new ls et assoc) n = (let no : None ≡ Some e = sym et ∙ n in cc)

  bound-of : (t v p : ℕ) → VpCase w w' t v → w'.vps.associated v ≡ Some p → (w'.tds.lives t ≡ life.KeysConfigured) × (has_not_run (w'.tds.ops t) ≡ false)
  bound-of t v p (old k pa ls et assoc ep run) n = (let x = le.bound t v p k pa (sym assoc ∙ n) in run p (sym assoc ∙ n) x.0 x.1)
  bound-of t v p (new ls et assoc) n = (let no : None ≡ Some p = sym assoc ∙ n in cc)

  le-frame : LawfulEpochs w'
  le-frame = record {
    last = λ t v k pa. last-of t v (each t v k pa);
    near = λ t v e k pa n. near-of t v e (each t v k pa) n;
    bound = λ t v p k pa n. bound-of t v p (each t v k pa) n;
    early = early;
  }

module _ (m : Machine) (w : World) (la : Lawful m w) (le : LawfulEpochs w) where
  pub quiet-epochs : (w' : World) → w'.pages.kinds ≡ w.pages.kinds → w'.pages.owners ≡ w.pages.owners → w'.tds.lives ≡ w.tds.lives → w'.tds.ops ≡ w.tds.ops → w'.tds.epochs ≡ w.tds.epochs
      → w'.vps.associated ≡ w.vps.associated → w'.vps.lasts ≡ w.vps.lasts → w'.vps.entered ≡ w.vps.entered → LawfulEpochs w'
  quiet-epochs w' kd ow lv os ep assoc ls et =
      le-frame w w' le
      (λ t v k pa. old (ap (λ (z : ℕ → PageKind). z t) (sym kd) ∙ k) (record { kind = ap (λ (z : ℕ → PageKind). z v) (sym kd) ∙ pa.kind; owner = ap (λ (z : ℕ → ℕ). z v) (sym ow) ∙ pa.owner })
      (ap (λ (z : ℕ → ℕ). z v) ls) (ap (λ (z : ℕ → Option ℕ). z v) et) (ap (λ (z : ℕ → Option ℕ). z v) assoc)
      (inl (ap (λ (z : ℕ → ℕ). z t) ep)) (λ p n l b. (ap (λ (z : ℕ → LifeState). z t) lv ∙ l, ap (λ (z : ℕ → OpState). has_not_run (z t)) os ∙ b)))
      (λ t k u. ap (λ (z : ℕ → ℕ). z t) ep ∙ le.early t (ap (λ (z : ℕ → PageKind). z t) (sym kd) ∙ k) (ap (λ (z : ℕ → OpState). z t) (sym os) ∙ u))

  -- a TD that has a virtual processor isn't one whose page was the host's
  no-host : (q t v : ℕ) → w.pages.kinds q ≡ kind.Nda → w.pages.kinds t ≡ kind.Tdr → (t == q) ≡ false
  no-host q t v host k = by_test (t == q) (λ y. absurd (let no : kind.Tdr ≡ kind.Nda = sym k ∙ (ap w.pages.kinds (eqb-true t q y) ∙ host) in cc)) (λ n. n)

  -- a page becomes one of another kind
  module _ (q : ℕ) (k' : PageKind) (t' level number : ℕ) (w' : World) (pg : w'.pages ≡ (take_node q k' t' level number w).pages) where
    kind-at : (x : ℕ) → (x == q) ≡ false → w'.pages.kinds x ≡ w.pages.kinds x
    kind-at x n = ap (λ (z : Pages). z.kinds x) pg ∙ rw n refl

    kind-here : {k : PageKind} (x : ℕ) → w'.pages.kinds x ≡ k → (x == q) ≡ true → k' ≡ k
    kind-here x e y = sym (rw y refl) ∙ (sym (ap (λ (z : Pages). z.kinds x) pg) ∙ e)

    page-off : (v : ℕ) (t : ℕ) → IsPageOf w'.pages t v kind.Tdvpr → k' ≢ kind.Tdvpr → (v == q) ≡ false
    page-off v t pa n = by_test (v == q) (λ y. absurd (n (kind-here v pa.kind y))) (λ z. z)

    page-was : (t v : ℕ) → (v == q) ≡ false → IsPageOf w'.pages t v kind.Tdvpr → IsPageOf w.pages t v kind.Tdvpr
    page-was t v n pa = record { kind = sym (kind-at v n) ∙ pa.kind; owner = sym (ap (λ (z : Pages). z.owners v) pg ∙ rw n refl) ∙ pa.owner }

    -- and no TDR page; TDs stay, and so do other virtual processors, and one that it begins has not entered
    taken-epochs : k' ≢ kind.Tdr → w'.tds.lives ≡ w.tds.lives → w'.tds.ops ≡ w.tds.ops → w'.tds.epochs ≡ w.tds.epochs
        → ((v : ℕ) → (v == q) ≡ false → w'.vps.lasts v ≡ w.vps.lasts v) → ((v : ℕ) → (v == q) ≡ false → w'.vps.entered v ≡ w.vps.entered v)
        → ((v : ℕ) → (v == q) ≡ false → w'.vps.associated v ≡ w.vps.associated v)
        → (k' ≡ kind.Tdvpr → (w'.vps.lasts q ≡ 0) × (w'.vps.entered q ≡ None) × (w'.vps.associated q ≡ None)) → LawfulEpochs w'
    taken-epochs no-tdr lv os ep ls et assoc begun =
        let off : (t : ℕ) → w'.pages.kinds t ≡ kind.Tdr → (t == q) ≡ false = λ t e. by_test (t == q) (λ y. absurd (no-tdr (kind-here t e y))) (λ z. z) in
        le-frame w w' le
        (λ t v e pa. by_test (v == q)
        (λ y. let here = eqb-true v q y in let b = begun (kind-here v pa.kind y) in new (ap w'.vps.lasts here ∙ b.0) (ap w'.vps.entered here ∙ b.1) (ap w'.vps.associated here ∙ b.2))
        (λ n. old (sym (kind-at t (off t e)) ∙ e) (page-was t v n pa) (ls v n) (et v n) (assoc v n) (inl (ap (λ (z : ℕ → ℕ). z t) ep))
        (λ p a l b. (ap (λ (z : ℕ → LifeState). z t) lv ∙ l, ap (λ (z : ℕ → OpState). has_not_run (z t)) os ∙ b))))
        (λ t e u. ap (λ (z : ℕ → ℕ). z t) ep ∙ le.early t (sym (kind-at t (off t e)) ∙ e) (ap (λ (z : ℕ → OpState). z t) (sym os) ∙ u))

-- the act of any shape
module _ (me : ℕ) (c : Call) (m : Machine) (w w' : World) (la : Lawful m w) (le : LawfulEpochs w) where
  by-world : (u : World) → w' ≡ u → LawfulEpochs u → LawfulEpochs w'
  by-world u e h = subst (λ (z : World). LawfulEpochs z) (sym e) h

  by-aspect : (a : Aspect) → aspect_of w' ≡ a → a.pages.kinds ≡ w.pages.kinds → a.pages.owners ≡ w.pages.owners → a.lives ≡ w.tds.lives → a.ops ≡ w.tds.ops → a.epochs ≡ w.tds.epochs
      → a.vps.associated ≡ w.vps.associated → a.vps.lasts ≡ w.vps.lasts → a.vps.entered ≡ w.vps.entered → LawfulEpochs w'
  by-aspect a e kd ow lv os ep assoc ls et =
      quiet-epochs m w la le w' (ap (λ (z : Aspect). z.pages.kinds) e ∙ kd) (ap (λ (z : Aspect). z.pages.owners) e ∙ ow) (ap (λ (z : Aspect). z.lives) e ∙ lv) (ap (λ (z : Aspect). z.ops) e ∙ os)
      (ap (λ (z : Aspect). z.epochs) e ∙ ep) (ap (λ (z : Aspect). z.vps.associated) e ∙ assoc) (ap (λ (z : Aspect). z.vps.lasts) e ∙ ls) (ap (λ (z : Aspect). z.vps.entered) e ∙ et)

  -- a TD begins at a page that no virtual processor's TD has
  begun-epochs : Begins c w w' → LawfulEpochs w'
  begun-epochs x =
      let u = x.tdr in
      let v : World = set_key x.hkid (AssignedTo u) (new_td u x.hkid (clear_page u (take_page u kind.Tdr u w))) in
      let host = host_kind _ x.host in
      by-world v x.is (le-frame w v le
      (λ t z k pa. let b = page-off m w la le u kind.Tdr u 0 0 v refl z t pa (λ e. cc) in
      let was = page-was m w la le u kind.Tdr u 0 0 v refl t z b pa in
      let tdr : w.pages.kinds t ≡ kind.Tdr = subst (λ (q : ℕ). w.pages.kinds q ≡ kind.Tdr) was.owner (la.pages.owner z (ap (λ (q : PageKind). same_kind q kind.Nda) was.kind)) in
      let a = no-host m w la le u t z host tdr in
      old tdr was refl refl refl (inl (rw a refl)) (λ p n l b. (rw a l, rw a b)))
      (λ t k e. by_test (t == u) (λ y. rw y refl) (λ y. rw y (le.early t (sym (kind-at m w la le u kind.Tdr u 0 0 v refl t y) ∙ k) (rw y at e)))))

  life-epochs : ChangesLife c w w' → LawfulEpochs w'
  life-epochs x =
      let e = x.rest in
      le-frame w w' le
      (λ t v k pa. let k' = ap (λ (z : Aspect). z.pages.kinds t) (sym e) ∙ k in
      let page : IsPageOf w.pages t v kind.Tdvpr = record { kind = ap (λ (z : Aspect). z.pages.kinds v) (sym e) ∙ pa.kind; owner = ap (λ (z : Aspect). z.pages.owners v) (sym e) ∙ pa.owner } in
      old k' page (ap (λ (z : Aspect). z.vps.lasts v) e) (ap (λ (z : Aspect). z.vps.entered v) e) (ap (λ (z : Aspect). z.vps.associated v) e) (inl (ap (λ (z : Aspect). z.epochs t) e))
      (λ p n l b. let off = idle_off m c w w' la x p t v (record { tdr = k'; life = l; page = record { kind = page.kind; owner = page.owner }; associated = n }) in
      (ap (λ (z : Aspect). z.lives t) e ∙ rw off l, ap (λ (z : Aspect). has_not_run (z.ops t)) e ∙ b)))
      (λ t k u. ap (λ (z : Aspect). z.epochs t) e ∙ le.early t (ap (λ (z : Aspect). z.pages.kinds t) (sym e) ∙ k) (ap (λ (z : Aspect). z.ops t) (sym e) ∙ u))

  module _ (x : ChangesOp c w w') where
    ran : OpGoes w x.tdr x.then_in → has_not_run (w.tds.ops x.tdr) ≡ false → has_not_run x.then_in ≡ false
    ran (unrun n) b = (let no : true ≡ false = sym n ∙ b in cc)
    ran (runs r s) b = r
    ran (restored r al none) b = r

    runs-on : (t : ℕ) → has_not_run (w.tds.ops t) ≡ false → has_not_run (w'.tds.ops t) ≡ false
    runs-on t b = ap (λ (z : Aspect). has_not_run (z.ops t)) x.rest
        ∙ by_test (t == x.tdr) (λ y. rw y (ran x.goes (ap (λ (z : ℕ). has_not_run (w.tds.ops z)) (sym (eqb-true t x.tdr y)) ∙ b))) (λ y. rw y b)

    was-new : (t : ℕ) → w'.tds.ops t ≡ op.Uninitialized → ((t == x.tdr) ≡ false) × (w.tds.ops t ≡ op.Uninitialized)
    was-new t e =
        let now : put w.tds.ops x.tdr x.then_in t ≡ op.Uninitialized = ap (λ (z : Aspect). z.ops t) (sym x.rest) ∙ e in
        by_test (t == x.tdr) (λ y. absurd (x.later (rw y at now))) (λ y. (y, rw y at now))

    epoch-goes : EpochGoes w w' x.tdr → (t : ℕ) → (w'.tds.epochs t ≡ w.tds.epochs t) ⊎ ((w.tds.epochs t ≡ 0) × (w'.tds.epochs t ≡ 1))
    epoch-goes (stay e) t = inl (ap (λ (z : ℕ → ℕ). z t) e)
    epoch-goes (begin k n e) t = by_test (t == x.tdr)
        (λ y. inr (subst (λ (z : ℕ). w.tds.epochs z ≡ 0) (sym (eqb-true t x.tdr y)) (le.early x.tdr k n), ap (λ (z : ℕ → ℕ). z t) e ∙ rw y refl))
        (λ y. inl (ap (λ (z : ℕ → ℕ). z t) e ∙ rw y refl))

    still-early : EpochGoes w w' x.tdr → (t : ℕ) → (t == x.tdr) ≡ false → w.tds.epochs t ≡ 0 → w'.tds.epochs t ≡ 0
    still-early (stay e) t off h = ap (λ (z : ℕ → ℕ). z t) e ∙ h
    still-early (begin k n e) t off h = ap (λ (z : ℕ → ℕ). z t) e ∙ rw off h

    op-epochs : LawfulEpochs w'
    op-epochs =
        let e = x.rest in
        le-frame w w' le
        (λ t v k pa. old (ap (λ (z : Aspect). z.pages.kinds t) (sym e) ∙ k) (record { kind = ap (λ (z : Aspect). z.pages.kinds v) (sym e) ∙ pa.kind; owner = ap (λ (z : Aspect). z.pages.owners v) (sym e) ∙ pa.owner })
        (ap (λ (z : Aspect). z.vps.lasts v) e) (ap (λ (z : Aspect). z.vps.entered v) e) (ap (λ (z : Aspect). z.vps.associated v) e) (epoch-goes x.epochs t)
        (λ p n l b. (ap (λ (z : Aspect). z.lives t) e ∙ l, runs-on t b)))
        (λ t k u. let n = was-new t u in still-early x.epochs t n.0 (le.early t (ap (λ (z : Aspect). z.pages.kinds t) (sym e) ∙ k) n.1))

  entered-epochs : (x : Enters me c w w') → LawfulEpochs (enter_guest me x.vp (w.tds.epochs x.tdr) w)
  entered-epochs y =
      let u = y.tdr in
      let v = y.vp in
      let w2 : World = enter_guest me v (w.tds.epochs u) w in
      let its : (t x : ℕ) → (x == v) ≡ true → IsPageOf w2.pages t x kind.Tdvpr → t ≡ u = λ t x z pa. sym pa.owner ∙ (ap w.pages.owners (eqb-true x v z) ∙ y.owner) in
      record {
        last = λ t x k pa. by_test (x == v) (λ z. rw z (subst (λ (q : ℕ). w.tds.epochs u ≤ w.tds.epochs q) (sym (its t x z pa)) (omega arith))) (λ z. rw z (le.last t x k (record { kind = pa.kind; owner = pa.owner })));
        near = λ t x e k pa n. by_test (x == v)
            (λ z. let at : Some (w.tds.epochs u) ≡ Some e = rw z at n in let same : w.tds.epochs u ≡ e = cc in let ep : w.tds.epochs t ≡ w.tds.epochs u = ap w.tds.epochs (its t x z pa) in (omega (arith, same, ep), omega (arith, same, ep)))
            (λ z. le.near t x e k (record { kind = pa.kind; owner = pa.owner }) (rw z at n));
        bound = λ t x p k pa n. by_test (x == v)
            (λ z. let tu = its t x z pa in (ap w.tds.lives tu ∙ y.life, ap (λ (q : ℕ). has_not_run (w.tds.ops q)) tu ∙ y.running))
            (λ z. le.bound t x p k (record { kind = pa.kind; owner = pa.owner }) (rw z at n));
        early = λ t k e. le.early t k e;
      }

  flushed-epochs : (v : ℕ) → LawfulEpochs (end_association v w)
  flushed-epochs v = record {
    last = λ t x k pa. le.last t x k (record { kind = pa.kind; owner = pa.owner });
    near = λ t x e k pa n. le.near t x e k (record { kind = pa.kind; owner = pa.owner }) n;
    bound = λ t x p k pa n. by_test (x == v) (λ y. let no : None ≡ Some p = rw y at n in cc) (λ y. le.bound t x p k (record { kind = pa.kind; owner = pa.owner }) (rw y at n));
    early = λ t k e. le.early t k e;
  }

  advanced-epochs : (x : Advances w w') → LawfulEpochs (set_epoch x.tdr (w.tds.epochs x.tdr + 1) w)
  advanced-epochs x =
      let u = x.tdr in record {
        last = λ t v k pa. (let low = le.last t v k (record { kind = pa.kind; owner = pa.owner }) in by_test (t == u)
            (λ y. let same : w.tds.epochs t ≡ w.tds.epochs u = ap w.tds.epochs (eqb-true t u y) in rw y (omega (arith, low, same)))
            (λ n. rw n low));
        near = λ t v e k pa n. (let near = le.near t v e k (record { kind = pa.kind; owner = pa.owner }) n in by_test (t == u)
            (λ y. let here = eqb-true t u y in
            let same : w.tds.epochs t ≡ w.tds.epochs u = ap w.tds.epochs here in
            let live : w.tds.lives u ≡ life.KeysConfigured = x.life in
            let alive : IsAlive w.pages w.tds t = record { kind = k; life = ap (λ (z : ℕ). life_number (w.tds.lives z) == life_number life.Teardown) here ∙ rw live refl } in
            let listed : list_any (λ q. q == v) (w.tds.vps u) ≡ true = subst (λ (z : ℕ). list_any (λ q. q == v) (w.tds.vps z) ≡ true) (pa.owner ∙ here) (la.lists.vp v pa.kind (subst (λ (z : ℕ). IsAlive w.pages w.tds z) (sym pa.owner) alive)) in
            let not_before : (e ≡ w.tds.epochs u - 1) → ⊥ = λ q. none_at w.vps.entered (w.tds.epochs u - 1) v (w.tds.vps u) (eqb-true _ 0 x.left) listed (n ∙ ap (λ (z : ℕ). Some z) q) in
            let low = near.0 in let high = near.1 in
            let now : e ≡ w.tds.epochs u = by_test (e == w.tds.epochs u - 1)
            (λ z. absurd (not_before (eqb-true e _ z)))
            (λ z. let other = eqb-false e (w.tds.epochs u - 1) z in omega (arith, low, high, same, other)) in
            rw y (omega (arith, now), omega (arith, now)))
            (λ z. rw z near));
        bound = λ t v p k pa n. le.bound t v p k (record { kind = pa.kind; owner = pa.owner }) n;
        early = λ t k e. by_test (t == u)
            (λ y. absurd (x.begun (ap w.tds.ops (sym (eqb-true t u y)) ∙ e)))
            (λ n. rw n (le.early t k e));
      }

  takes-epochs : Takes w w' → LawfulEpochs w'
  takes-epochs x =
      taken-epochs m w la le x.page x.becomes x.tdr x.level x.number w' (ap (λ (z : Aspect). z.pages) x.rest) x.no_tdr (ap (λ (z : Aspect). z.lives) x.rest) (ap (λ (z : Aspect). z.ops) x.rest)
      (ap (λ (z : Aspect). z.epochs) x.rest) (λ v n. (x.vps v n).last) (λ v n. (x.vps v n).entered) (λ v n. (x.vps v n).associated) x.begun

  shape-epochs : Shape me c w w' → LawfulEpochs w'
  shape-epochs (notes x) = by-aspect _ x.rest refl refl refl refl refl refl refl refl
  shape-epochs (fills x) = by-aspect _ x.rest refl refl refl refl refl refl refl refl
  shape-epochs (takes x held) = takes-epochs x
  shape-epochs (reclaims x) = by-world _ x.is (taken-epochs m w la le x.page kind.Nda 0 0 0 _ refl (λ e. cc) refl refl refl (λ v n. refl) (λ v n. refl) (λ v n. refl) (λ e. cc))
  shape-epochs (unmaps x) = by-world _ x.is (taken-epochs m w la le (w.tds.entries x.tdr x.level x.number).page kind.Nda 0 0 0 _ refl (λ e. cc) refl refl refl (λ v n. refl) (λ v n. refl) (λ v n. refl) (λ e. cc))
  shape-epochs (begins x) = begun-epochs x
  shape-epochs (changes_life x) = life-epochs x
  shape-epochs (changes_op x) = op-epochs x
  shape-epochs (changes_vp x) = by-aspect _ x.rest refl refl refl refl refl refl refl refl
  shape-epochs (enters x) = by-world _ x.is (entered-epochs x)
  shape-epochs (flushes x) = by-world _ x.is (flushed-epochs x.vp)
  shape-epochs (changes_entry x) = by-aspect _ x.rest refl refl refl refl refl refl refl refl
  shape-epochs (advances x) = by-world _ x.is (advanced-epochs x)

pub act-epochs : (me : ℕ) (c : Call) (m : Machine) (w w' : World) → Lawful m w → LawfulEpochs w → ActShape m me c w w' → LawfulEpochs w'
act-epochs me c m w w' la le (one x) = shape-epochs me c m w w' la le x
act-epochs me c m w w' la le (moves v x y held) = takes-epochs me c m v w' (unmaps_kept m c w v la x) (shape-epochs me c m w v la le (unmaps x)) y
act-epochs me c m w w' la le (page_by_page none x) = by_shapes w w' w LawfulEpochs (λ v u k y of h. shape-epochs me c m v u (k la) h y) (λ l. l) x le

module _ (o : Opening) (w : World) (la : Lawful o.machine w) (le : LawfulEpochs w) where
  pub row-epochs : (me : ℕ) (c : Call) → Passes ((row_of o me c).items w) → LawfulEpochs ((row_of o me c).act w)
  row-epochs me c ps = act-epochs me c o.machine w ((row_of o me c).act w) la le (shape_of o me c w ps)

  pub leave-epochs : (v : ℕ) → LawfulEpochs (leave_guest v w)
  leave-epochs v = record {
    last = λ t x k pa. le.last t x k (record { kind = pa.kind; owner = pa.owner });
    near = λ t x e k pa n. by_test (x == v) (λ y. let no : None ≡ Some e = rw y at n in cc) (λ y. le.near t x e k (record { kind = pa.kind; owner = pa.owner }) (rw y at n));
    bound = λ t x p k pa n. le.bound t x p k (record { kind = pa.kind; owner = pa.owner }) n;
    early = λ t k e. le.early t k e;
  }
