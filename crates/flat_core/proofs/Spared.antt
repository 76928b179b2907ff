-- The act of each call leaves a virtual processor in guest on another logical processor as it is.
use Rattle.std.proofs.Common.{◌≡◌, ◌≢◌, inl, inr, refl, sym, ◌∙◌, ap, subst, ℕ, false, ◌==◌}
use Rattle.std.proofs.lemmas.Bool.{eqb-true}
use Rattle.td_words.specs.declared.names.OpState.{OpState}
use Rattle.td_words.specs.declared.machines.Machine.{Machine}
use Rattle.td_words.specs.declared.calls.Call.{Call}
use Rattle.td_words.specs.declared.calls.Call.TheVariants as call
use Rattle.flat_core.specs.World.{World}
use Rattle.flat_core.specs.Conditions.{running_ops}
use Rattle.flat_core.specs.Lawful.{Lawful}
use Rattle.flat_core.specs.Table.{row_of}
use Rattle.flat_core.specs.Guests.{IsOccupied, SameVp, Spares, RowsSpare}
use Rattle.flat_core.proofs.Tests.{by_test, host_kind}
use Rattle.flat_core.proofs.Maps.{node_named}
use Rattle.flat_core.proofs.AccessActs.{occupied-here}
use Rattle.flat_core.proofs.Shapes.{Aspect, aspect_of, IsOneOf, Takes, Unmaps, ChangesOp, Shape, notes, fills, takes, reclaims, unmaps, begins, changes_life, changes_op, changes_vp, enters, flushes, changes_entry, advances, IsOfPages, ActShape, one, moves, page_by_page, by_shapes, unmaps_kept, owner_reclaimed, same_vp}
use Rattle.flat_core.proofs.ShapeOf.{shape_of}
use Rattle.flat_core.proofs.Sparing.{beside, running_on, page_off, tdr_off, dead_off, idle_off, owned_off, named_off, elsewhere_off}

module _ (m : Machine) (w w' : World) (l : Lawful m w) (p t v : ℕ) (x : IsOccupied w p t v) where
  -- a page that an entry names is none of it
  pub unmaps_spares : (c : Call) → Unmaps c w w' → Spares w w' p t v
  unmaps_spares c y =
      let node = node_named m w l y.tdr y.level y.number y.alive y.removed.used in
      let off = named_off m w l p t v x y.level (w.tds.entries y.tdr y.level y.number).page node.page.kind in
      subst (λ (z : World). Spares w z p t v) (sym y.is) (beside m w l p t v x _ (rw (off.1) refl) refl refl (rw (off.0) refl) (rw (off.0) refl) (same_vp w _ v refl refl))

  -- nor is one of the host
  takes_spares : Takes w w' → Spares w w' p t v
  takes_spares y =
      let host = host_kind _ y.host in
      let a = page_off m w l p t v x y.page host in let b = tdr_off m w l p t v x y.page host in
      let e = y.rest in
      beside m w l p t v x w' (ap (λ (z : Aspect). z.pages.kinds t) e ∙ rw b refl) (ap (λ (z : Aspect). z.lives t) e) (ap (λ (z : Aspect). z.ops t) e)
      (ap (λ (z : Aspect). z.pages.kinds v) e ∙ rw a refl) (ap (λ (z : Aspect). z.pages.owners v) e ∙ rw a refl) (y.vps v a)

  by_aspect : (a : Aspect) → aspect_of w' ≡ a → a.pages.kinds t ≡ w.pages.kinds t → a.lives t ≡ w.tds.lives t → a.ops t ≡ w.tds.ops t → a.pages.kinds v ≡ w.pages.kinds v → a.pages.owners v ≡ w.pages.owners v → SameVp w w' v → Spares w w' p t v
  by_aspect a e kt life ops kv ov same =
      beside m w l p t v x w' (ap (λ (z : Aspect). z.pages.kinds t) e ∙ kt) (ap (λ (z : Aspect). z.lives t) e ∙ life) (ap (λ (z : Aspect). z.ops t) e ∙ ops)
      (ap (λ (z : Aspect). z.pages.kinds v) e ∙ kv) (ap (λ (z : Aspect). z.pages.owners v) e ∙ ov) same

  vp_stays : (a : Aspect) → aspect_of w' ≡ a → a.vps ≡ w.vps → a.registers ≡ w.hidden.registers → SameVp w w' v
  vp_stays a e vps registers = same_vp w w' v (ap (λ (z : Aspect). z.vps) e ∙ vps) (ap (λ (z : Aspect). z.registers) e ∙ registers)

  -- nor is what the act for a list of pages changes
  pub of_pages_spares : {me : ℕ} {c : Call} (y : Shape me c w w') → IsOfPages y → Spares w w' p t v
  of_pages_spares (notes y) of = by_aspect _ y.rest refl refl refl refl refl (vp_stays _ y.rest refl refl)
  of_pages_spares (fills y) of = by_aspect _ y.rest refl refl refl refl refl (vp_stays _ y.rest refl refl)
  of_pages_spares (takes y held) of = takes_spares y
  of_pages_spares (changes_entry y) of = by_aspect _ y.rest refl refl refl refl refl (vp_stays _ y.rest refl refl)
  of_pages_spares _ of = absurd of

module _ (me : ℕ) (c : Call) (m : Machine) (w w' : World) (l : Lawful m w) (p t v : ℕ) (x : IsOccupied w p t v) (apart : p ≢ me) (unpaused : c ≢ call.ExportPause t) where
  by_world : (u : World) → w' ≡ u → Spares w u p t v → Spares w w' p t v
  by_world u e s = subst (λ (z : World). Spares w z p t v) (sym e) s

  op_spares : ChangesOp c w w' → Spares w w' p t v
  op_spares y = elim (y.running) [
    | inl pause ↦ (let off : (t == y.tdr) ≡ false = by_test (t == y.tdr) (λ z. absurd (unpaused (pause ∙ ap (λ (u : ℕ). call.ExportPause u) (sym (eqb-true t y.tdr z))))) (λ z. z) in
        by_aspect m w w' l p t v x _ y.rest refl refl (rw off refl) refl refl (vp_stays m w w' l p t v x _ y.rest refl refl))
    | inr runs ↦ running_on m w l p t v x w' (ap (λ (z : Aspect). z.pages.kinds t) y.rest) (ap (λ (z : Aspect). z.lives t) y.rest)
        (subst (λ (s : OpState). IsOneOf running_ops s) (sym (ap (λ (z : Aspect). z.ops t) y.rest))
        (by_test (t == y.tdr) (λ z. rw z (runs (subst (λ (u : ℕ). IsOneOf running_ops (w.tds.ops u)) (eqb-true t y.tdr z) x.running))) (λ z. rw z (x.running))))
        (ap (λ (z : Aspect). z.pages.kinds v) y.rest) (ap (λ (z : Aspect). z.pages.owners v) y.rest) (vp_stays m w w' l p t v x _ y.rest refl refl)
  ]

  shape_spares : Shape me c w w' → Spares w w' p t v
  shape_spares (notes y) = of_pages_spares m w w' l p t v x {me = me} {c = c} (notes y) tt
  shape_spares (fills y) = of_pages_spares m w w' l p t v x {me = me} {c = c} (fills y) tt
  shape_spares (takes y held) = of_pages_spares m w w' l p t v x {me = me} {c = c} (takes y held) tt
  shape_spares (reclaims y) =
      let off = owned_off m w l p t v x y.tdr y.page (dead_off m w l p t v x y.tdr y.dead) (owner_reclaimed m c w w' l y) in
      by_world _ y.is (beside m w l p t v x _ (rw (off.1) refl) refl refl (rw (off.0) refl) (rw (off.0) refl) (same_vp w _ v refl refl))
  shape_spares (unmaps y) = unmaps_spares m w w' l p t v x c y
  shape_spares (begins y) =
      let host = host_kind _ y.host in
      let a = page_off m w l p t v x y.tdr host in let b = tdr_off m w l p t v x y.tdr host in
      by_world _ y.is (beside m w l p t v x _ (rw b refl) (rw b refl) (rw b refl) (rw a refl) (rw a refl) (same_vp w _ v refl refl))
  shape_spares (changes_life y) =
      let off = idle_off m c w w' l y p t v (occupied-here w p t v x) in
      by_aspect m w w' l p t v x _ y.rest refl (rw off refl) refl refl refl (vp_stays m w w' l p t v x _ y.rest refl refl)
  shape_spares (changes_op y) = op_spares y
  shape_spares (changes_vp y) =
      let off : (v == y.vp) ≡ false = by_test (v == y.vp) (λ z. absurd (y.idle p t (subst (λ (u : ℕ). IsOccupied w p t u) (eqb-true v y.vp z) x))) (λ z. z) in
      let o = y.others v off in
      by_aspect m w w' l p t v x _ y.rest refl refl refl refl refl (record {
        index = ap (λ (z : Aspect). z.vps.indexes v) y.rest;
        state = o.0;
        associated = ap (λ (z : Aspect). z.vps.associated v) y.rest;
        last = ap (λ (z : Aspect). z.vps.lasts v) y.rest;
        position = o.1;
        exported = o.2;
        entered = ap (λ (z : Aspect). z.vps.entered v) y.rest;
        registers = o.3;
      })
  shape_spares (enters y) =
      let a = elsewhere_off m w l p t v x me y.vp apart y.here in
      by_world _ y.is (beside m w l p t v x _ refl refl refl refl refl (record { index = refl; state = refl; associated = rw a refl; last = rw a refl; position = refl; exported = refl; entered = rw a refl; registers = λ r. refl }))
  shape_spares (flushes y) =
      let a = elsewhere_off m w l p t v x me y.vp apart y.here in
      by_world _ y.is (beside m w l p t v x _ refl refl refl refl refl (record { index = refl; state = refl; associated = rw a refl; last = refl; position = refl; exported = refl; entered = refl; registers = λ r. refl }))
  shape_spares (changes_entry y) = of_pages_spares m w w' l p t v x {me = me} {c = c} (changes_entry y) tt
  shape_spares (advances y) = by_world _ y.is (beside m w l p t v x _ refl refl refl refl refl (same_vp w _ v refl refl))

spares_behind : (w u w' : World) (p t v : ℕ) → Spares w u p t v → Spares u w' p t v → Spares w w' p t v
spares_behind w u w' p t v a b = record {
  occupied = b.occupied;
  same = record {
    index = b.same.index ∙ a.same.index;
    state = b.same.state ∙ a.same.state;
    associated = b.same.associated ∙ a.same.associated;
    last = b.same.last ∙ a.same.last;
    position = b.same.position ∙ a.same.position;
    exported = b.same.exported ∙ a.same.exported;
    entered = b.same.entered ∙ a.same.entered;
    registers = λ r. b.same.registers r ∙ a.same.registers r;
  };
}

spared_here : (w : World) (p t v : ℕ) → IsOccupied w p t v → Spares w w p t v
spared_here w p t v x = record { occupied = x; same = same_vp w w v refl refl }

act_spares : (me : ℕ) (c : Call) (m : Machine) (w w' : World) → Lawful m w → (p t v : ℕ) → IsOccupied w p t v → p ≢ me → c ≢ call.ExportPause t
    → ActShape m me c w w' → Spares w w' p t v
act_spares me c m w w' l p t v x apart unpaused (one y) = shape_spares me c m w w' l p t v x apart unpaused y
act_spares me c m w w' l p t v x apart unpaused (moves u y z held) =
    let first = unmaps_spares m w u l p t v x c y in
    spares_behind w u w' p t v first (takes_spares m u w' (unmaps_kept m c w u l y) p t v first.occupied z)
act_spares me c m w w' l p t v x apart unpaused (page_by_page none y) =
    by_shapes w w' w (λ u. Spares w u p t v) (λ a b k z of s. spares_behind w a b p t v s (of_pages_spares m a b (k l) p t v s.occupied z of)) (λ k. k) y
    (spared_here w p t v x)

pub row_spares : RowsSpare
row_spares o me c t n w p v l ps x apart = act_spares me c o.machine w ((row_of o me c).act w) l p t v x apart n (shape_of o me c w ps)
