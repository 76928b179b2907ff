-- What leaves a virtual processor in guest on another logical processor as it is.
use Rattle.std.proofs.Common.{◌≡◌, ◌≢◌, refl, sym, ◌∙◌, subst, ap, ℕ, ◌≤◌, List, [], ◌∷◌, Option, Some, true, false, not, ◌==◌, arith}
use Rattle.std.specs.List.{list_any}
use Rattle.std.proofs.lemmas.Bool.{eqb-true, eqb-false, ne_eqb}
use Rattle.td_words.specs.declared.names.PageKind.TheVariants as kind
use Rattle.td_words.specs.declared.names.LifeState.{LifeState}
use Rattle.td_words.specs.declared.names.LifeState.TheVariants as life
use Rattle.td_words.specs.declared.names.VcpuState.{VcpuState}
use Rattle.td_words.specs.declared.names.VcpuState.TheVariants as vcpu
use Rattle.td_words.specs.declared.machines.Machine.{Machine}
use Rattle.td_words.specs.declared.calls.Call.{Call}
use Rattle.td_words.specs.NameNumber.{life_number, op_number}
use Rattle.td_words.specs.declared.names.OpState.{OpState}
use Rattle.td_words.specs.declared.names.OpState.TheVariants as op
use Rattle.flat_core.specs.World.{World}
use Rattle.flat_core.specs.Conditions.{associated_in, associated_count, is_elsewhere, same_vp_state, running_ops}
use Rattle.flat_core.specs.BundleRows.{paused_ops}
use Rattle.flat_core.specs.Lawful.{Lawful, IsAlive}
use Rattle.flat_core.specs.Guests.{IsOccupied, SameVp, Spares}
use Rattle.flat_core.specs.Access.{IsHere}
use Rattle.flat_core.proofs.Tests.{by_test}
use Rattle.flat_core.proofs.Maps.{kind_named, unlisted}
use Rattle.flat_core.proofs.Shapes.{ChangesLife}

-- life states that aren't this one
pub not_configured : (allowed : List LifeState) (s : LifeState) → list_any (λ a. life_number a == life_number life.KeysConfigured) allowed ≡ false → list_any (λ a. life_number a == life_number s) allowed ≡ true → s ≡ life.KeysConfigured → ⊥
not_configured allowed s off on e = (let same : list_any (λ a. life_number a == life_number life.KeysConfigured) allowed ≡ true = subst (λ (x : LifeState). list_any (λ a. life_number a == life_number x) allowed ≡ true) e on in let no : true ≡ false = sym same ∙ off in cc)

-- one that is associated is counted
pub counted : (f : ℕ → Option ℕ) (v p : ℕ) (vs : List ℕ) → f v ≡ Some p → list_any (λ q. q == v) vs ≡ true → 1 ≤ associated_in f vs
counted f v p [] e h = cc
counted f v p (x ∷ vs) e h = by_test (x == v)
    (λ y. let here : f x ≡ Some p = ap f (eqb-true x v y) ∙ e in rw here (omega arith))
    (λ y. let rest = counted f v p vs e (rw y at h) in omega (arith, rest))

pub ready_only : (s : VcpuState) → s ≡ vcpu.Ready → same_vp_state s vcpu.Created ≡ true → ⊥
ready_only vcpu.Created e h = cc
ready_only vcpu.Ready e h = cc

pub paused_runs : (s : OpState) → list_any (λ a. op_number a == op_number s) paused_ops ≡ true → list_any (λ a. op_number a == op_number s) running_ops ≡ true → ⊥
paused_runs op.PausedExport a b = cc
paused_runs op.Runnable a b = cc
paused_runs op.LiveExport a b = cc
paused_runs op.LiveImport a b = cc
paused_runs _ a b = cc

-- a virtual processor that is associated is of no TD of which none is
pub associated_off : (m : Machine) (w : World) → Lawful m w → (u p t v : ℕ) → IsHere w p t v → (associated_count w u == 0) ≡ true → (t == u) ≡ false
associated_off m w l u p t v h none = by_test (t == u)
    (λ y. absurd (let alive : IsAlive w.pages w.tds t = record { kind = h.tdr; life = rw (h.life) refl } in
    let listed : list_any (λ q. q == v) (w.tds.vps (w.pages.owners v)) ≡ true = l.lists.vp v h.page.kind (subst (λ (z : ℕ). IsAlive w.pages w.tds z) (sym h.page.owner) alive) in
    let here : list_any (λ q. q == v) (w.tds.vps u) ≡ true = subst (λ (z : ℕ). list_any (λ q. q == v) (w.tds.vps z) ≡ true) (h.page.owner ∙ eqb-true t u y) listed in
    let some = counted w.vps.associated v p (w.tds.vps u) h.associated here in
    let zero_is : associated_in w.vps.associated (w.tds.vps u) ≡ 0 = eqb-true _ 0 none in omega (arith, some, zero_is)))
    (λ n. n)

-- nor of one whose life goes on
pub idle_off : (m : Machine) (c : Call) (w w' : World) → Lawful m w → (x : ChangesLife c w w') → (p t v : ℕ) → IsHere w p t v → (t == x.tdr) ≡ false
idle_off m c w w' l x p t v h = by_test (t == x.tdr) (λ y. associated_off m w l x.tdr p t v h (x.idle (ap w.tds.lives (sym (eqb-true t x.tdr y)) ∙ h.life))) (λ n. n)

module _ (m : Machine) (w : World) (l : Lawful m w) (p t v : ℕ) (x : IsOccupied w p t v) where
  abbrev IsSpared : World → Type 0
  IsSpared w' = Spares w w' p t v

  -- an act that changes neither page's use, nor the TD's life, nor the virtual processor, and by which the TD runs on
  pub running_on : (w' : World) → w'.pages.kinds t ≡ w.pages.kinds t → w'.tds.lives t ≡ w.tds.lives t → list_any (λ s. op_number s == op_number (w'.tds.ops t)) running_ops ≡ true → w'.pages.kinds v ≡ w.pages.kinds v → w'.pages.owners v ≡ w.pages.owners v
      → SameVp w w' v → IsSpared w'
  running_on w' kt life runs kv ov same = record {
    occupied = record {
      tdr = kt ∙ x.tdr;
      life = life ∙ x.life;
      running = runs;
      current = same.last ∙ x.current;
      page = record { kind = kv ∙ x.page.kind; owner = ov ∙ x.page.owner };
      ready = same.state ∙ x.ready;
      associated = same.associated ∙ x.associated;
      epoch = x.epoch;
      entered = same.entered ∙ x.entered;
    };
    same = same;
  }

  -- so where its operation state is as before
  pub beside : (w' : World) → w'.pages.kinds t ≡ w.pages.kinds t → w'.tds.lives t ≡ w.tds.lives t → w'.tds.ops t ≡ w.tds.ops t → w'.pages.kinds v ≡ w.pages.kinds v → w'.pages.owners v ≡ w.pages.owners v → SameVp w w' v → IsSpared w'
  beside w' kt life ops kv ov same = running_on w' kt life (ap (λ (z : OpState). list_any (λ s. op_number s == op_number z) running_ops) ops ∙ x.running) kv ov same

  -- it is neither a host page, nor is its TDR page
  pub page_off : (q : ℕ) → w.pages.kinds q ≡ kind.Nda → (v == q) ≡ false
  page_off q host = by_test (v == q) (λ y. absurd (let no : kind.Tdvpr ≡ kind.Nda = sym x.page.kind ∙ (ap w.pages.kinds (eqb-true v q y) ∙ host) in cc)) (λ n. n)

  pub tdr_off : (q : ℕ) → w.pages.kinds q ≡ kind.Nda → (t == q) ≡ false
  tdr_off q host = by_test (t == q) (λ y. absurd (let no : kind.Tdr ≡ kind.Nda = sym x.tdr ∙ (ap w.pages.kinds (eqb-true t q y) ∙ host) in cc)) (λ n. n)

  -- a TD whose life is at its end
  pub dead_off : (u : ℕ) → (life_number (w.tds.lives u) == life_number life.Teardown) ≡ true → (t == u) ≡ false
  dead_off u dead = by_test (t == u)
      (λ y. absurd (let at : w.tds.lives u ≡ life.KeysConfigured = ap w.tds.lives (sym (eqb-true t u y)) ∙ x.life in let no : true ≡ false = sym dead ∙ rw at refl in cc))
      (λ n. n)

  -- a page of another TD
  pub owned_off : (u q : ℕ) → (t == u) ≡ false → w.pages.owners q ≡ u → ((v == q) ≡ false) × ((t == q) ≡ false)
  owned_off u q off mine = (
    by_test (v == q) (λ y. absurd (eqb-false t u off (sym x.page.owner ∙ (ap w.pages.owners (eqb-true v q y) ∙ mine)))) (λ n. n),
    by_test (t == q) (λ y. absurd (eqb-false t u off (sym (l.pages.tdr t x.tdr) ∙ (ap w.pages.owners (eqb-true t q y) ∙ mine)))) (λ n. n),
  )

  -- nor is either a page that an entry names
  pub named_off : (level q : ℕ) → w.pages.kinds q ≡ kind_named level → ((v == q) ≡ false) × ((t == q) ≡ false)
  named_off level q k = (
    by_test (v == q) (λ y. absurd (unlisted level kind.Tdvpr refl (sym k ∙ (ap w.pages.kinds (sym (eqb-true v q y)) ∙ x.page.kind)))) (λ n. n),
    by_test (t == q) (λ y. absurd (unlisted level kind.Tdr refl (sym k ∙ (ap w.pages.kinds (sym (eqb-true t q y)) ∙ x.tdr)))) (λ n. n),
  )

  -- another virtual processor
  pub elsewhere_off : (me q : ℕ) → p ≢ me → not (is_elsewhere me (w.vps.associated q)) ≡ true → (v == q) ≡ false
  elsewhere_off me q apart h = by_test (v == q)
      (λ y. absurd (let here : w.vps.associated q ≡ Some p = ap w.vps.associated (sym (eqb-true v q y)) ∙ x.associated in
      let n : (p == me) ≡ false = ne_eqb p me apart in
      let no : not (not (p == me)) ≡ true = subst (λ (z : Option ℕ). not (is_elsewhere me z) ≡ true) here h in
      let bad : false ≡ true = rw n at no in cc))
      (λ n. n)
