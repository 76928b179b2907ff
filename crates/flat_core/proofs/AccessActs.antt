-- What keeps what cached translations and walks say.
use Rattle.std.proofs.Common.{◌≡◌, ◌≢◌, ◌⊎◌, inl, inr, refl, sym, ◌∙◌, subst, ap, ℕ, suc, ◌+◌, ◌/◌, ◌<◌, ◌≤◌, List, [], ◌∷◌, Option, Some, Bool, true, false, not, ◌==◌, ◌&&◌, arith}
use Rattle.std.specs.List.{list_any}
use Rattle.std.proofs.lemmas.Bool.{eqb-true, and_parts}
use Rattle.td_words.specs.declared.names.PageKind.{PageKind}
use Rattle.td_words.specs.declared.names.PageKind.TheVariants as kind
use Rattle.td_words.specs.declared.names.LifeState.{LifeState}
use Rattle.td_words.specs.declared.names.LifeState.TheVariants as life
use Rattle.td_words.specs.declared.names.OpState.{OpState}
use Rattle.td_words.specs.declared.names.OpState.TheVariants as op
use Rattle.td_words.specs.declared.names.EntryState.{EntryState}
use Rattle.td_words.specs.declared.names.EntryState.TheVariants as entry
use Rattle.td_words.specs.declared.machines.Machine.{Machine}
use Rattle.td_words.specs.NameNumber.{op_number}
use Rattle.td_words.specs.Packing.{Entry, is_exported}
use Rattle.flat_core.specs.World.{World, Pages, Tds, Vps, put, free_entry}
use Rattle.flat_core.specs.Processor.{Translation, Walk, Guest}
use Rattle.flat_core.specs.Effects.{put_in, take_node, set_entry, set_epoch}
use Rattle.flat_core.specs.Tracking.{is_tracked}
use Rattle.flat_core.specs.Tree.{same_state}
use Rattle.flat_core.specs.Lawful.{Lawful, IsAlive, IsPageOf, is_free, is_named_kind}
use Rattle.flat_core.specs.Guests.{IsOccupied}
use Rattle.flat_core.specs.Access.{IsHere, IsUsable, inside, outside, entry_of, node_of, node_number, allows_less, is_pending, may_be_exempt, Names, IsCurrent, IsOnCourse, LawfulTranslations, LawfulEpochs, has_not_run}
use Rattle.flat_core.proofs.Tests.{by_test}
use Rattle.flat_core.proofs.Maps.{unlisted, node_named}
use Rattle.flat_core.proofs.EntryStates.{entry_set}
use Rattle.flat_core.proofs.Ranges.{IsRemoved}
use Rattle.flat_core.proofs.Removals.{other_entry}
use Rattle.flat_core.proofs.Trackings.{entered_later, epoch_later}

pub is_begun : (s : OpState) → list_any (λ a. op_number a == op_number s) (op.Initialized ∷ []) ≡ true → has_not_run s ≡ true
is_begun op.Initialized h = refl
is_begun _ h = cc

pub free_of : (s : EntryState) → list_any (λ a. same_state a s) (entry.Free ∷ []) ≡ true → is_free s ≡ true
free_of entry.Free h = refl
free_of _ h = cc

-- a state that isn't exported is not the exempt one
pub unexempt : (s : EntryState) → is_exported s ≡ false → s ≢ entry.ExportedBlockedW
unexempt s h e = let no : true ≡ false = sym (ap is_exported e) ∙ h in cc

-- a TD that may have run
pub record IsBuilt (w : World) (t : ℕ) : Type 0 where
  pub tdr : w.pages.kinds t ≡ kind.Tdr
  pub life : w.tds.lives t ≡ life.KeysConfigured
  pub running : has_not_run (w.tds.ops t) ≡ false

pub here-built : (w : World) → LawfulEpochs w → (p t v : ℕ) → IsHere w p t v → IsBuilt w t
here-built w le p t v h = record { tdr = h.tdr; life = h.life; running = (le.bound t v p h.tdr h.page h.associated).1 }

pub occupied-here : (w : World) (p t v : ℕ) → IsOccupied w p t v → IsHere w p t v
occupied-here w p t v x = record { tdr = x.tdr; life = x.life; page = record { kind = x.page.kind; owner = x.page.owner }; associated = x.associated }

-- where kinds, owners, lives and associations are as before, so is who is here
pub here-as : (w w' : World) → w'.pages.kinds ≡ w.pages.kinds → w'.pages.owners ≡ w.pages.owners → w'.vps.associated ≡ w.vps.associated → (p t v : ℕ) → w'.tds.lives t ≡ w.tds.lives t → IsHere w p t v → IsHere w' p t v
here-as w w' kd ow assoc p t v lv h = record {
  tdr = ap (λ (z : ℕ → PageKind). z t) kd ∙ h.tdr;
  life = lv ∙ h.life;
  page = record { kind = ap (λ (z : ℕ → PageKind). z v) kd ∙ h.page.kind; owner = ap (λ (z : ℕ → ℕ). z v) ow ∙ h.page.owner };
  associated = ap (λ (z : ℕ → Option ℕ). z v) assoc ∙ h.associated;
}

pub built-alive : (w : World) (t : ℕ) → IsBuilt w t → IsAlive w.pages w.tds t
built-alive w t b = record { kind = b.tdr; life = rw (b.life) refl }

-- where associations, last epochs and TD_EPOCH are as before, what may be used is
pub usable-same : (w w' : World) (p : ℕ) (g : Option Guest)
    → ((t v : ℕ) → IsHere w' p t v → IsHere w p t v × (w'.vps.lasts v ≡ w.vps.lasts v) × (w'.tds.epochs t ≡ w.tds.epochs t)) → ((x : Guest) (e : ℕ) → g ≡ Some x → w'.vps.entered x.vp ≡ Some e → w.vps.entered x.vp ≡ Some e)
    → (t e : ℕ) → IsUsable w' p g t e → IsUsable w p g t e
usable-same w w' p g back enters t e (inside x is same n) = inside x is same (enters x e is n)
usable-same w w' p g back enters t e (outside v other h last at) = (let b = back t v h in outside v other b.0 (sym b.1 ∙ (last ∙ b.2)) (at ∙ b.2))

-- What may be used after an act may have been used before, at the same epoch; and what could be, and walks, are current still.
module _ (w w' : World) (le : LawfulEpochs w) (p : ℕ) (cs : List Translation) (g : Option Guest) (occ : (x : Guest) → g ≡ Some x → IsOccupied w p x.tdr x.vp)
    (fore : (t v : ℕ) → IsHere w p t v → IsHere w' p t v)
    (back : (t v : ℕ) → IsHere w' p t v → IsHere w p t v × (w'.vps.lasts v ≡ w.vps.lasts v))
    (enters : (x : Guest) (e : ℕ) → g ≡ Some x → w'.vps.entered x.vp ≡ Some e → w.vps.entered x.vp ≡ Some e)
    (usable-back : (t e : ℕ) → IsUsable w' p g t e → IsUsable w p g t e)
    (holds : (c : Translation) (e : ℕ) → IsBuilt w c.tdr → IsUsable w p g c.tdr e → IsCurrent w c e → IsCurrent w' c e)
    (walks : (x : Guest) (k : Walk) (e : ℕ) → g ≡ Some x → IsBuilt w x.tdr → w.vps.entered x.vp ≡ Some e → IsOnCourse w x.tdr k e → IsOnCourse w' x.tdr k e) where
  pub wide-frame : LawfulTranslations w p cs g → LawfulTranslations w' p cs g
  wide-frame a = record {
    associated = λ c i. (let h = a.associated c i in (h.0, fore c.tdr h.0 h.1));
    newest = λ x e v is n h. (let b = back x.tdr v h in let l = a.newest x e v is (enters x e is n) b.0 in let same = b.1 in omega (arith, l, same));
    usable = λ c e i u. (let h = a.associated c i in let us = usable-back c.tdr e u in holds c e (here-built w le p c.tdr h.0 h.1) us (a.usable c e i us));
    walk = λ x k e is at n. (let m = enters x e is n in walks x k e is (here-built w le p x.tdr x.vp (occupied-here w p x.tdr x.vp (occ x is))) m (a.walk x k e is at m));
  }

-- so where what may be used is the same
module _ (w w' : World) (le : LawfulEpochs w) (p : ℕ) (cs : List Translation) (g : Option Guest) (occ : (x : Guest) → g ≡ Some x → IsOccupied w p x.tdr x.vp)
    (fore : (t v : ℕ) → IsHere w p t v → IsHere w' p t v)
    (back : (t v : ℕ) → IsHere w' p t v → IsHere w p t v × (w'.vps.lasts v ≡ w.vps.lasts v) × (w'.tds.epochs t ≡ w.tds.epochs t))
    (enters : (x : Guest) (e : ℕ) → g ≡ Some x → w'.vps.entered x.vp ≡ Some e → w.vps.entered x.vp ≡ Some e)
    (holds : (c : Translation) (e : ℕ) → IsBuilt w c.tdr → IsCurrent w c e → IsCurrent w' c e)
    (walks : (t : ℕ) (k : Walk) (e : ℕ) → IsBuilt w t → IsOnCourse w t k e → IsOnCourse w' t k e) where
  pub frame : LawfulTranslations w p cs g → LawfulTranslations w' p cs g
  frame = wide-frame w w' le p cs g occ fore (λ t v h. (let b = back t v h in (b.0, b.1))) enters (usable-same w w' p g back enters) (λ c e bu us. holds c e bu) (λ x k e is bu n. walks x.tdr k e bu)

-- entries and blocks as before, and a page that was exempt is so still
current-on : (w w' : World) (c : Translation) (e : ℕ) → entry_of w' c ≡ entry_of w c → w'.pages.blocked c.page ≡ w.pages.blocked c.page
    → ((entry_of w c).state ≡ entry.ExportedBlockedW → may_be_exempt (w.tds.ops c.tdr) ≡ true → may_be_exempt (w'.tds.ops c.tdr) ≡ true)
    → IsCurrent w c e → IsCurrent w' c e
current-on w w' c e en bl os h = record {
  named = record { used = ap (λ (x : Entry). is_free x.state) en ∙ h.named.used; page_is = ap (λ (x : Entry). x.page) en ∙ h.named.page_is };
  rights = λ less.
      let was : allows_less c.may_write (entry_of w c).state ≡ true = ap (λ (x : Entry). allows_less c.may_write x.state) (sym en) ∙ less in
      elim (h.rights was) [
        | inl y ↦ inl (subst (λ (z : ℕ). e ≤ z) (sym bl) y)
        | inr y ↦ inr (ap (λ (x : Entry). x.state) en ∙ y.0, os y.0 y.1)
      ];
  accepted = ap (λ (x : Entry). is_pending x.state) en ∙ h.accepted;
}

-- so with operation states as before
pub current-same : (w w' : World) (c : Translation) (e : ℕ) → entry_of w' c ≡ entry_of w c → w'.pages.blocked c.page ≡ w.pages.blocked c.page → w'.tds.ops c.tdr ≡ w.tds.ops c.tdr → IsCurrent w c e → IsCurrent w' c e
current-same w w' c e en bl os h = current-on w w' c e en bl (λ s x. ap may_be_exempt os ∙ x) h

pub walking-same : (w w' : World) (t : ℕ) (k : Walk) (e : ℕ) → node_of w' t k ≡ node_of w t k → w'.pages.blocked k.page ≡ w.pages.blocked k.page → IsOnCourse w t k e → IsOnCourse w' t k e
walking-same w w' t k e en bl h = record {
  level = h.level;
  named = record { used = ap (λ (x : Entry). is_free x.state) en ∙ h.named.used; page_is = ap (λ (x : Entry). x.page) en ∙ h.named.page_is };
  rights = λ off. subst (λ (z : ℕ). e ≤ z) (sym bl) (h.rights (ap (λ (x : Entry). same_state x.state entry.NlMapped) (sym en) ∙ off));
}

-- an entry stays where another one is set
pub entry-apart : (w : World) (u level number : ℕ) (x : Entry) (t l n : ℕ) → (t ≡ u → l ≡ level → n ≡ number → ⊥)
    → put w.tds.entries u (put_in (w.tds.entries u) level number x) t l n ≡ w.tds.entries t l n
entry-apart w u level number x t l n apart = by_test (t == u)
    (λ y. by_test (l == level && n == number)
    (λ z. let both = and_parts (l == level) (n == number) z in absurd (apart (eqb-true t u y) (eqb-true l level both.0) (eqb-true n number both.1)))
    (λ z. rw (y, z) (ap (λ (q : ℕ). w.tds.entries q l n) (sym (eqb-true t u y)))))
    (λ y. rw y refl)

-- and one that isn't FREE where one is set that was
pub entry-kept : (w : World) (u level number : ℕ) (x : Entry) (t l n : ℕ) → is_free (w.tds.entries u level number).state ≡ true → is_free (w.tds.entries t l n).state ≡ false
    → put w.tds.entries u (put_in (w.tds.entries u) level number x) t l n ≡ w.tds.entries t l n
entry-kept w u level number x t l n free used = entry-apart w u level number x t l n
    (λ a b c. let at : w.tds.entries t l n ≡ w.tds.entries u level number = ap (λ (q : ℕ). w.tds.entries q l n) a ∙ (ap (λ (q : ℕ). w.tds.entries u q n) b ∙ ap (λ (q : ℕ). w.tds.entries u level q) c) in
    let no : true ≡ false = sym free ∙ (ap (λ (e : Entry). is_free e.state) (sym at) ∙ used) in cc)

module _ (m : Machine) (w : World) (la : Lawful m w) (le : LawfulEpochs w) (p : ℕ) (cs : List Translation) (g : Option Guest) (occ : (x : Guest) → g ≡ Some x → IsOccupied w p x.tdr x.vp) (a : LawfulTranslations w p cs g) where
  -- the page of an entry of a TD that runs
  current-page : (c : Translation) (e : ℕ) → IsBuilt w c.tdr → IsCurrent w c e → IsPageOf w.pages c.tdr c.page kind.Reg
  current-page c e bu h =
      let x = (la.tree.lowest c.tdr c.gpa_page (built-alive w c.tdr bu) h.named.used).1.page in
      subst (λ (q : ℕ). IsPageOf w.pages c.tdr q kind.Reg) h.named.page_is (record { kind = x.kind; owner = x.owner })

  node-page : (t : ℕ) (k : Walk) (e : ℕ) → IsBuilt w t → IsOnCourse w t k e → IsPageOf w.pages t k.page kind.Ept
  node-page t k e bu h =
      let x = (la.tree.upper t k.level (node_number k) (built-alive w t bu) h.named.used).1.page in
      subst (λ (q : ℕ). IsPageOf w.pages t q kind.Ept) h.named.page_is (record { kind = x.kind; owner = x.owner })

  -- an act that changes nothing of this
  pub quiet-act : (w' : World) → w'.pages ≡ w.pages → w'.tds.lives ≡ w.tds.lives → w'.tds.ops ≡ w.tds.ops → w'.tds.epochs ≡ w.tds.epochs → w'.tds.entries ≡ w.tds.entries
      → w'.vps.associated ≡ w.vps.associated → w'.vps.lasts ≡ w.vps.lasts → w'.vps.entered ≡ w.vps.entered → LawfulTranslations w' p cs g
  quiet-act w' pg lv os ep en assoc ls et =
      frame w w' le p cs g occ
      (λ t v h. here-as w w' (ap (λ (z : Pages). z.kinds) pg) (ap (λ (z : Pages). z.owners) pg) assoc p t v (ap (λ (z : ℕ → LifeState). z t) lv) h)
      (λ t v h. (here-as w' w (ap (λ (z : Pages). z.kinds) (sym pg)) (ap (λ (z : Pages). z.owners) (sym pg)) (sym assoc) p t v (ap (λ (z : ℕ → LifeState). z t) (sym lv)) h, ap (λ (z : ℕ → ℕ). z v) ls, ap (λ (z : ℕ → ℕ). z t) ep))
      (λ x e is n. ap (λ (z : ℕ → Option ℕ). z x.vp) (sym et) ∙ n)
      (λ c e bu h. current-same w w' c e (ap (λ (z : ℕ → ℕ → ℕ → Entry). z c.tdr 0 c.gpa_page) en) (ap (λ (z : Pages). z.blocked c.page) pg) (ap (λ (z : ℕ → OpState). z c.tdr) os) h)
      (λ t k e bu h. walking-same w w' t k e (ap (λ (z : ℕ → ℕ → ℕ → Entry). z t (suc k.level) (node_number k)) en) (ap (λ (z : Pages). z.blocked k.page) pg) h) a

  -- a page that isn't of TDs that run is taken or given back; entries that aren't FREE, lives and operation states of those stay
  module _ (q : ℕ) (k' : PageKind) (t' level number : ℕ) (off : (t x : ℕ) → IsBuilt w t → (w.pages.owners x ≡ t) → (w.pages.kinds x ≡ kind.Nda → ⊥) → (x == q) ≡ false)
      (w' : World) (pg : w'.pages ≡ (take_node q k' t' level number w).pages)
      (lv : (t v : ℕ) → IsHere w p t v → w'.tds.lives t ≡ w.tds.lives t) (lb : (t : ℕ) → w'.tds.lives t ≡ life.KeysConfigured → (t == q) ≡ false → w.tds.lives t ≡ life.KeysConfigured)
      (new : (t v : ℕ) → IsHere w' p t v → ((t == q) ≡ false) × ((v == q) ≡ false))
      (os : (t : ℕ) → IsBuilt w t → w'.tds.ops t ≡ w.tds.ops t) (ep : (t : ℕ) → IsBuilt w t → w'.tds.epochs t ≡ w.tds.epochs t)
      (en : (t l n : ℕ) → IsBuilt w t → is_free (w.tds.entries t l n).state ≡ false → w'.tds.entries t l n ≡ w.tds.entries t l n)
      (assoc : (v : ℕ) → (v == q) ≡ false → w'.vps.associated v ≡ w.vps.associated v) (ls : (v : ℕ) → (v == q) ≡ false → w'.vps.lasts v ≡ w.vps.lasts v)
      (et : (v : ℕ) → (v == q) ≡ false → w'.vps.entered v ≡ w.vps.entered v) where
    kinds-kept : (x : ℕ) → (x == q) ≡ false → w'.pages.kinds x ≡ w.pages.kinds x
    kinds-kept x n = ap (λ (z : Pages). z.kinds x) pg ∙ rw n refl

    owners-kept : (x : ℕ) → (x == q) ≡ false → w'.pages.owners x ≡ w.pages.owners x
    owners-kept x n = ap (λ (z : Pages). z.owners x) pg ∙ rw n refl

    blocked-kept : (x : ℕ) → (x == q) ≡ false → w'.pages.blocked x ≡ w.pages.blocked x
    blocked-kept x n = ap (λ (z : Pages). z.blocked x) pg ∙ rw n refl

    tdr-off : (t : ℕ) → IsBuilt w t → (t == q) ≡ false
    tdr-off t bu = off t t bu (la.pages.tdr t bu.tdr) (λ e. let no : kind.Tdr ≡ kind.Nda = sym bu.tdr ∙ e in cc)

    vp-off : (t v : ℕ) → IsBuilt w t → IsPageOf w.pages t v kind.Tdvpr → (v == q) ≡ false
    vp-off t v bu h = off t v bu h.owner (λ e. let no : kind.Tdvpr ≡ kind.Nda = sym h.kind ∙ e in cc)

    pub taken-act : LawfulTranslations w' p cs g
    taken-act =
        frame w w' le p cs g occ
        (λ t v h. let bu = here-built w le p t v h in let n = tdr-off t bu in let x = vp-off t v bu h.page in
        record { tdr = kinds-kept t n ∙ h.tdr; life = lv t v h ∙ h.life; page = record { kind = kinds-kept v x ∙ h.page.kind; owner = owners-kept v x ∙ h.page.owner }; associated = assoc v x ∙ h.associated })
        (λ t v h. let n = new t v h in
        let was : IsHere w p t v = record { tdr = sym (kinds-kept t n.0) ∙ h.tdr; life = lb t h.life n.0; page = record { kind = sym (kinds-kept v n.1) ∙ h.page.kind; owner = sym (owners-kept v n.1) ∙ h.page.owner }; associated = sym (assoc v n.1) ∙ h.associated } in
        (was, ls v n.1, ep t (here-built w le p t v was)))
        (λ x e is n. let h = occupied-here w p x.tdr x.vp (occ x is) in let bu = here-built w le p x.tdr x.vp h in sym (et x.vp (vp-off x.tdr x.vp bu h.page)) ∙ n)
        (λ c e bu h. let pa = current-page c e bu h in
        current-same w w' c e (en c.tdr 0 c.gpa_page bu h.named.used) (blocked-kept c.page (off c.tdr c.page bu pa.owner (λ z. let no : kind.Reg ≡ kind.Nda = sym pa.kind ∙ z in cc))) (os c.tdr bu) h)
        (λ t k e bu h. let pa = node-page t k e bu h in
        walking-same w w' t k e (en t (suc k.level) (node_number k) bu h.named.used) (blocked-kept k.page (off t k.page bu pa.owner (λ z. let no : kind.Ept ≡ kind.Nda = sym pa.kind ∙ z in cc))) h) a

  host-off : (q : ℕ) → w.pages.kinds q ≡ kind.Nda → (t x : ℕ) → IsBuilt w t → (w.pages.owners x ≡ t) → (w.pages.kinds x ≡ kind.Nda → ⊥) → (x == q) ≡ false
  host-off q host t x bu own not = by_test (x == q) (λ y. absurd (not (ap w.pages.kinds (eqb-true x q y) ∙ host))) (λ n. n)

  -- a TD that has run isn't one that hasn't
  pub op-off : (u : ℕ) → has_not_run (w.tds.ops u) ≡ true → (t : ℕ) → IsBuilt w t → (t == u) ≡ false
  op-off u on t bu = by_test (t == u) (λ y. absurd (let no : true ≡ false = sym on ∙ (ap (λ (z : ℕ). has_not_run (w.tds.ops z)) (sym (eqb-true t u y)) ∙ bu.running) in cc)) (λ n. n)

  -- an act that changes lives or epochs of TDs that don't run, and entries that are FREE; and operation states, but a page
  -- that is exempt is so still
  pub op-act : (w' : World) → w'.pages ≡ w.pages → w'.vps ≡ w.vps → (lv : (t v : ℕ) → IsHere w p t v → w'.tds.lives t ≡ w.tds.lives t) → (lb : (t v : ℕ) → IsHere w' p t v → w.tds.lives t ≡ life.KeysConfigured)
      → (os : (t n : ℕ) → IsBuilt w t → (w.tds.entries t 0 n).state ≡ entry.ExportedBlockedW → may_be_exempt (w.tds.ops t) ≡ true → may_be_exempt (w'.tds.ops t) ≡ true) → (ep : (t : ℕ) → IsBuilt w t → w'.tds.epochs t ≡ w.tds.epochs t)
      → (en : (t l n : ℕ) → IsBuilt w t → is_free (w.tds.entries t l n).state ≡ false → w'.tds.entries t l n ≡ w.tds.entries t l n) → LawfulTranslations w' p cs g
  op-act w' pg vp lv lb os ep en =
      frame w w' le p cs g occ
      (λ t v h. here-as w w' (ap (λ (z : Pages). z.kinds) pg) (ap (λ (z : Pages). z.owners) pg) (ap (λ (z : Vps). z.associated) vp) p t v (lv t v h) h)
      (λ t v h. let was = here-as w' w (ap (λ (z : Pages). z.kinds) (sym pg)) (ap (λ (z : Pages). z.owners) (sym pg)) (ap (λ (z : Vps). z.associated) (sym vp)) p t v (lb t v h ∙ sym h.life) h in
      (was, ap (λ (z : Vps). z.lasts v) vp, ep t (here-built w le p t v was)))
      (λ x e is n. ap (λ (z : Vps). z.entered x.vp) (sym vp) ∙ n)
      (λ c e bu h. current-on w w' c e (en c.tdr 0 c.gpa_page bu h.named.used) (ap (λ (z : Pages). z.blocked c.page) pg) (os c.tdr c.gpa_page bu) h)
      (λ t k e bu h. walking-same w w' t k e (en t (suc k.level) (node_number k) bu h.named.used) (ap (λ (z : Pages). z.blocked k.page) pg) h) a

  -- a host page becomes one of another kind, no TD page nor one of a virtual processor that is here
  pub host-act : (q : ℕ) (k' : PageKind) (t' level number : ℕ) → w.pages.kinds q ≡ kind.Nda → (w' : World) → w'.pages ≡ (take_node q k' t' level number w).pages
      → ((k' ≡ kind.Tdr) → w'.tds.lives q ≡ life.KeysConfigured → ⊥) → ((k' ≡ kind.Tdvpr) → w'.vps.associated q ≡ Some p → ⊥)
      → (lv : (t : ℕ) → (t == q) ≡ false → w'.tds.lives t ≡ w.tds.lives t) → (os : (t : ℕ) → (t == q) ≡ false → w'.tds.ops t ≡ w.tds.ops t) → (ep : (t : ℕ) → (t == q) ≡ false → w'.tds.epochs t ≡ w.tds.epochs t)
      → (en : (t l n : ℕ) → (t == q) ≡ false → is_free (w.tds.entries t l n).state ≡ false → w'.tds.entries t l n ≡ w.tds.entries t l n)
      → ((v : ℕ) → (v == q) ≡ false → w'.vps.associated v ≡ w.vps.associated v) → ((v : ℕ) → (v == q) ≡ false → w'.vps.lasts v ≡ w.vps.lasts v) → ((v : ℕ) → (v == q) ≡ false → w'.vps.entered v ≡ w.vps.entered v) → LawfulTranslations w' p cs g
  host-act q k' t' level number host w' pg no-tdr no-vp lv os ep en assoc ls et =
      let off = host-off q host in
      let tdr : (t : ℕ) → IsBuilt w t → (t == q) ≡ false = λ t bu. off t t bu (la.pages.tdr t bu.tdr) (λ e. let no : kind.Tdr ≡ kind.Nda = sym bu.tdr ∙ e in cc) in
      taken-act q k' t' level number off w' pg (λ t v h. lv t (tdr t (here-built w le p t v h))) (λ t e n. sym (lv t n) ∙ e)
      (λ t v h. (
        by_test (t == q) (λ y. absurd (no-tdr (at-q t h.tdr y) (subst (λ (z : ℕ). w'.tds.lives z ≡ life.KeysConfigured) (eqb-true t q y) h.life))) (λ n. n),
        by_test (v == q) (λ y. absurd (no-vp (at-q v h.page.kind y) (subst (λ (z : ℕ). w'.vps.associated z ≡ Some p) (eqb-true v q y) h.associated))) (λ n. n),
      ))
      (λ t bu. os t (tdr t bu)) (λ t bu. ep t (tdr t bu)) (λ t l n bu. en t l n (tdr t bu)) assoc ls et
    where
      at-q : (x : ℕ) {k : PageKind} → w'.pages.kinds x ≡ k → (x == q) ≡ true → k' ≡ k
      at-q x e y = sym (rw y refl) ∙ (sym (ap (λ (z : Pages). z.kinds x) pg) ∙ e)

  -- a virtual processor of a TD that runs is in its list
  listed : (t v : ℕ) → IsBuilt w t → IsPageOf w.pages t v kind.Tdvpr → list_any (λ q. q == v) (w.tds.vps t) ≡ true
  listed t v bu pa =
      subst (λ (z : ℕ). list_any (λ q. q == v) (w.tds.vps z) ≡ true) pa.owner (la.lists.vp v pa.kind (subst (λ (z : ℕ). IsAlive w.pages w.tds z) (sym pa.owner) (built-alive w t bu)))

  -- whoever is in guest entered at TD_EPOCH or before; so what may be used, may be at such an epoch
  entered-low : (x : Guest) (e : ℕ) → g ≡ Some x → w.vps.entered x.vp ≡ Some e → e ≤ w.tds.epochs x.tdr
  entered-low x e is n = let h = occupied-here w p x.tdr x.vp (occ x is) in (le.near x.tdr x.vp e h.tdr h.page n).0

  usable-low : (t e : ℕ) → IsUsable w p g t e → e ≤ w.tds.epochs t
  usable-low t e (inside x is same n) = subst (λ (z : ℕ). e ≤ w.tds.epochs z) same (entered-low x e is n)
  usable-low t e (outside v other h last at) = omega (arith, at)

  -- The entry of a page gets another state and mark for that page, and its BEPOCH may be TD_EPOCH now. What the new state
  -- allows less than a translation, the old one did, and none is exempt from that, or TD_EPOCH is noted, or the page is exempt
  -- now.
  module _ (u level number : ℕ) (s' : EntryState) (mark : ℕ) (b : ℕ → ℕ) (still-used : is_free s' ≡ false) (same-pending : is_pending s' ≡ is_pending (w.tds.entries u level number).state)
      (high : (t q e : ℕ) → w.pages.owners q ≡ t → e ≤ w.tds.epochs t → e ≤ w.pages.blocked q → e ≤ b q)
      (fewer : (writes : Bool) (e : ℕ) → allows_less writes s' ≡ true → e ≤ w.tds.epochs u → (e ≤ b (w.tds.entries u level number).page)
      ⊎ (((allows_less writes (w.tds.entries u level number).state ≡ true) × ((w.tds.entries u level number).state ≢ entry.ExportedBlockedW)) ⊎ ((s' ≡ entry.ExportedBlockedW) × (may_be_exempt (w.tds.ops u) ≡ true))))
      (stops : (e : ℕ) → same_state s' entry.NlMapped ≡ false → e ≤ w.tds.epochs u → (e ≤ b (w.tds.entries u level number).page) ⊎ (same_state (w.tds.entries u level number).state entry.NlMapped ≡ false))
      (w' : World) (pg : w'.pages ≡ record (w.pages) { blocked = b }) (lv : w'.tds.lives ≡ w.tds.lives) (os : w'.tds.ops ≡ w.tds.ops) (ep : w'.tds.epochs ≡ w.tds.epochs)
      (en : w'.tds.entries ≡ (set_entry u level number (record { state = s'; page = (w.tds.entries u level number).page; mark = mark }) w).tds.entries) (vp : w'.vps ≡ w.vps) where
    abbrev was : Entry
    was = w.tds.entries u level number

    abbrev put-there : Entry
    put-there = record { state = s'; page = was.page; mark = mark }

    blocked-is : (q : ℕ) → w'.pages.blocked q ≡ b q
    blocked-is q = ap (λ (z : Pages). z.blocked q) pg

    abbrev Says : Translation → ℕ → Entry → Type 0
    Says c e x = Names x c.page × (allows_less c.may_write x.state ≡ true → (e ≤ w'.pages.blocked c.page) ⊎ ((x.state ≡ entry.ExportedBlockedW) × (may_be_exempt (w'.tds.ops c.tdr) ≡ true))) × (is_pending x.state ≡ false)

    to-say : (c : Translation) (e : ℕ) → Says c e (entry_of w' c) → IsCurrent w' c e
    to-say c e h = record { named = h.0; rights = h.1; accepted = h.2 }

    noted : (q e : ℕ) → e ≤ b q → e ≤ w'.pages.blocked q
    noted q e h = subst (λ (z : ℕ). e ≤ z) (sym (blocked-is q)) h

    current-still : (c : Translation) (e : ℕ) → IsBuilt w c.tdr → IsUsable w p g c.tdr e → IsCurrent w c e → IsCurrent w' c e
    current-still c e bu us h =
        let pa = current-page c e bu h in
        let low = usable-low c.tdr e us in
        to-say c e (subst (λ (z : ℕ → ℕ → ℕ → Entry). Says c e (z c.tdr 0 c.gpa_page)) (sym en)
        (entry_set w u level number put-there (Says c e) c.tdr 0 c.gpa_page
        (λ x y z. let at : entry_of w c ≡ was = ap (λ (q : ℕ). w.tds.entries q 0 c.gpa_page) x ∙ (ap (λ (q : ℕ). w.tds.entries u q c.gpa_page) y ∙ ap (λ (q : ℕ). w.tds.entries u level q) z) in
        let page : was.page ≡ c.page = ap (λ (q : Entry). q.page) (sym at) ∙ h.named.page_is in (
          record { used = still-used; page_is = page },
          λ less. elim (fewer c.may_write e less (subst (λ (q : ℕ). e ≤ w.tds.epochs q) x low)) [
            | inl k ↦ inl (noted c.page e (subst (λ (q : ℕ). e ≤ b q) page k))
            | inr j ↦ elim j [
              | inl k ↦ elim (h.rights (ap (λ (q : Entry). allows_less c.may_write q.state) at ∙ k.0)) [
                | inl i ↦ inl (noted c.page e (high c.tdr c.page e pa.owner low i))
                | inr i ↦ absurd (k.1 (sym (ap (λ (q : Entry). q.state) at) ∙ i.0))
              ]
              | inr k ↦ inr (k.0, ap (λ (z : ℕ → OpState). may_be_exempt (z c.tdr)) os ∙ (ap (λ (z : ℕ). may_be_exempt (w.tds.ops z)) x ∙ k.1))
            ]
          ],
          same-pending ∙ (sym (ap (λ (q : Entry). is_pending q.state) at) ∙ h.accepted),
        ))
        (λ apart. (
          h.named,
          λ less. elim (h.rights less) [
            | inl k ↦ inl (noted c.page e (high c.tdr c.page e pa.owner low k))
            | inr k ↦ inr (k.0, ap (λ (z : ℕ → OpState). may_be_exempt (z c.tdr)) os ∙ k.1)
          ],
          h.accepted,
        ))))

    abbrev Leads : ℕ → Walk → ℕ → Entry → Type 0
    Leads t k e x = Names x k.page × (same_state x.state entry.NlMapped ≡ false → e ≤ w'.pages.blocked k.page)

    walking-still : (x : Guest) (k : Walk) (e : ℕ) → g ≡ Some x → IsBuilt w x.tdr → w.vps.entered x.vp ≡ Some e → IsOnCourse w x.tdr k e → IsOnCourse w' x.tdr k e
    walking-still x k e is bu n h =
        let pa = node-page x.tdr k e bu h in
        let low = entered-low x e is n in
        let says : Leads x.tdr k e (node_of w' x.tdr k) = subst (λ (z : ℕ → ℕ → ℕ → Entry). Leads x.tdr k e (z x.tdr (suc k.level) (node_number k))) (sym en)
        (entry_set w u level number put-there (Leads x.tdr k e) x.tdr (suc k.level) (node_number k)
        (λ i j y. let at : node_of w x.tdr k ≡ was = ap (λ (q : ℕ). w.tds.entries q (suc k.level) (node_number k)) i ∙ (ap (λ (q : ℕ). w.tds.entries u q (node_number k)) j ∙ ap (λ (q : ℕ). w.tds.entries u level q) y) in
        let page : was.page ≡ k.page = ap (λ (q : Entry). q.page) (sym at) ∙ h.named.page_is in (
          record { used = still-used; page_is = page },
          λ off. elim (stops e off (subst (λ (q : ℕ). e ≤ w.tds.epochs q) i low)) [
            | inl z ↦ noted k.page e (subst (λ (q : ℕ). e ≤ b q) page z)
            | inr z ↦ noted k.page e (high x.tdr k.page e pa.owner low (h.rights (ap (λ (q : Entry). same_state q.state entry.NlMapped) at ∙ z)))
          ],
        ))
        (λ apart. (h.named, λ off. noted k.page e (high x.tdr k.page e pa.owner low (h.rights off))))) in
        record { level = h.level; named = says.0; rights = says.1 }

    here-still : (t v : ℕ) → IsHere w p t v → IsHere w' p t v
    here-still t v h = here-as w w' (ap (λ (z : Pages). z.kinds) pg) (ap (λ (z : Pages). z.owners) pg) (ap (λ (z : Vps). z.associated) vp) p t v (ap (λ (z : ℕ → LifeState). z t) lv) h

    here-was : (t v : ℕ) → IsHere w' p t v → IsHere w p t v × (w'.vps.lasts v ≡ w.vps.lasts v) × (w'.tds.epochs t ≡ w.tds.epochs t)
    here-was t v h = (
      here-as w' w (ap (λ (z : Pages). z.kinds) (sym pg)) (ap (λ (z : Pages). z.owners) (sym pg)) (ap (λ (z : Vps). z.associated) (sym vp)) p t v (ap (λ (z : ℕ → LifeState). z t) (sym lv)) h,
      ap (λ (z : Vps). z.lasts v) vp,
      ap (λ (z : ℕ → ℕ). z t) ep,
    )

    pub restated-act : LawfulTranslations w' p cs g
    restated-act =
        let enters : (x : Guest) (e : ℕ) → g ≡ Some x → w'.vps.entered x.vp ≡ Some e → w.vps.entered x.vp ≡ Some e = λ x e is n. sym (ap (λ (z : Vps). z.entered x.vp) vp) ∙ n in
        wide-frame w w' le p cs g occ here-still (λ t v h. (let k = here-was t v h in (k.0, k.1))) enters (usable-same w w' p g here-was enters) current-still walking-still a

  -- a block is noted at TD_EPOCH: no BEPOCH is lower than it was at an epoch that something may be used at
  pub block-noted : (u page : ℕ) → w.pages.owners page ≡ u → (t x e : ℕ) → w.pages.owners x ≡ t → e ≤ w.tds.epochs t → e ≤ w.pages.blocked x → e ≤ put w.pages.blocked page (w.tds.epochs u) x
  block-noted u page own t x e o low h = by_test (x == page)
      (λ y. rw y (subst (λ (z : ℕ). e ≤ w.tds.epochs z) (sym o ∙ (ap w.pages.owners (eqb-true x page y) ∙ own)) low))
      (λ z. rw z h)

  -- TD_EPOCH rises: what may still be used is used in guest
  pub raised-act : (u : ℕ) → LawfulTranslations (set_epoch u (w.tds.epochs u + 1) w) p cs g
  raised-act u =
      let w' : World = set_epoch u (w.tds.epochs u + 1) w in
      let was : (t v : ℕ) → IsHere w' p t v → IsHere w p t v = λ t v h. record { tdr = h.tdr; life = h.life; page = record { kind = h.page.kind; owner = h.page.owner }; associated = h.associated } in
      wide-frame w w' le p cs g occ
      (λ t v h. record { tdr = h.tdr; life = h.life; page = record { kind = h.page.kind; owner = h.page.owner }; associated = h.associated })
      (λ t v h. (was t v h, refl)) (λ x e is n. n) (λ t e us. before w' was t e us)
      (λ c e bu us h. current-same w w' c e refl refl refl h) (λ x k e is bu n h. walking-same w w' x.tdr k e refl refl h) a
    where
      before : (w' : World) → ((t v : ℕ) → IsHere w' p t v → IsHere w p t v) → (t e : ℕ) → IsUsable (set_epoch u (w.tds.epochs u + 1) w) p g t e → IsUsable w p g t e
      before w' was t e (inside x is same n) = inside x is same n
      before w' was t e (outside v other h last at) =
          let k : IsHere w p t v = record { tdr = h.tdr; life = h.life; page = record { kind = h.page.kind; owner = h.page.owner }; associated = h.associated } in
          by_test (t == u)
          (λ y. absurd (let same = eqb-true t u y in let up : w.vps.lasts v ≡ w.tds.epochs u + 1 = rw y at last in let low = le.last t v k.tdr k.page in let e2 : w.tds.epochs t ≡ w.tds.epochs u = ap w.tds.epochs same in omega (arith, up, low, e2)))
          (λ n. outside v other k (rw n at last) (rw n at at))

  -- The page of an entry is given back, whose block is tracked: whoever is in guest entered later, and what may be used may be at
  -- a later epoch, so nothing of this goes through that entry.
  module _ (u level number : ℕ) (alive : IsAlive w.pages w.tds u) (r : IsRemoved (w.tds.entries u level number).state)
      (empty : (j n : ℕ) → suc j ≡ level → n / 512 ≡ number → is_free (w.tds.entries u j n).state ≡ true) (over : is_tracked w u (w.tds.entries u level number).page ≡ true)
      (w' : World) (pg : w'.pages ≡ (take_node (w.tds.entries u level number).page kind.Nda 0 0 0 w).pages) (td : w'.tds ≡ (set_entry u level number free_entry w).tds) (vp : w'.vps ≡ w.vps) where
    abbrev removed : Entry
    removed = w.tds.entries u level number

    entered-late : (x : Guest) (e : ℕ) → g ≡ Some x → x.tdr ≡ u → w.vps.entered x.vp ≡ Some e → w.pages.blocked removed.page < e
    entered-late x e is same n =
        let h = occupied-here w p x.tdr x.vp (occ x is) in
        entered_later (w.pages.blocked removed.page) (w.tds.epochs u) w.vps.entered x.vp e (w.tds.vps u) over
        (subst (λ (z : ℕ). list_any (λ q. q == x.vp) (w.tds.vps z) ≡ true) same (listed x.tdr x.vp (here-built w le p x.tdr x.vp h) h.page)) n

    usable-late : (t e : ℕ) → t ≡ u → IsUsable w p g t e → w.pages.blocked removed.page < e
    usable-late t e same (inside x is td n) = entered-late x e is (td ∙ same) n
    usable-late t e same (outside v other h last at) =
        let later = epoch_later (w.pages.blocked removed.page) (w.tds.epochs u) _ over in let here : w.tds.epochs t ≡ w.tds.epochs u = ap w.tds.epochs same in omega (arith, later, at, here)

    at-removed : (t l n : ℕ) → t ≡ u → l ≡ level → n ≡ number → w.tds.entries t l n ≡ removed
    at-removed t l n x y z = ap (λ (q : ℕ). w.tds.entries q l n) x ∙ (ap (λ (q : ℕ). w.tds.entries u q n) y ∙ ap (λ (q : ℕ). w.tds.entries u level q) z)

    translation-apart : (c : Translation) (e : ℕ) → IsUsable w p g c.tdr e → IsCurrent w c e → c.tdr ≡ u → 0 ≡ level → c.gpa_page ≡ number → ⊥
    translation-apart c e us h x y z =
        let at = at-removed c.tdr 0 c.gpa_page x y z in
        let page : removed.page ≡ c.page = ap (λ (q : Entry). q.page) (sym at) ∙ h.named.page_is in
        let late = usable-late c.tdr e x us in
        elim (h.rights (ap (λ (q : Entry). allows_less c.may_write q.state) at ∙ r.less c.may_write)) [
          | inl k ↦ (let same : w.pages.blocked removed.page ≡ w.pages.blocked c.page = ap w.pages.blocked page in omega (arith, late, k, same))
          | inr k ↦ unexempt removed.state r.unmarked (sym (ap (λ (q : Entry). q.state) at) ∙ k.0)
        ]

    walk-apart : (x : Guest) (k : Walk) (e : ℕ) → g ≡ Some x → w.vps.entered x.vp ≡ Some e → IsOnCourse w x.tdr k e → x.tdr ≡ u → suc k.level ≡ level → node_number k ≡ number → ⊥
    walk-apart x k e is n h i j y =
        let at = at-removed x.tdr (suc k.level) (node_number k) i j y in
        let page : removed.page ≡ k.page = ap (λ (q : Entry). q.page) (sym at) ∙ h.named.page_is in
        let late = entered-late x e is i n in
        let low = h.rights (ap (λ (q : Entry). same_state q.state entry.NlMapped) at ∙ r.stops) in
        let same : w.pages.blocked removed.page ≡ w.pages.blocked k.page = ap w.pages.blocked page in omega (arith, late, low, same)

    entries-kept : (t l n : ℕ) → (t ≡ u → l ≡ level → n ≡ number → ⊥) → w'.tds.entries t l n ≡ w.tds.entries t l n
    entries-kept t l n apart = ap (λ (z : Tds). z.entries t l n) td ∙ entry-apart w u level number free_entry t l n apart

    blocked-at : (q : ℕ) → (q == removed.page) ≡ false → w'.pages.blocked q ≡ w.pages.blocked q
    blocked-at q n = ap (λ (z : Pages). z.blocked q) pg ∙ rw n refl

    other-page : (t l n q : ℕ) → IsBuilt w t → Names (w.tds.entries t l n) q → (t ≡ u → l ≡ level → n ≡ number → ⊥) → (q == removed.page) ≡ false
    other-page t l n q bu h apart = subst (λ (z : ℕ). (z == removed.page) ≡ false) h.page_is (other_entry m w u level number la alive r.used r.unmarked empty t l n (built-alive w t bu) h.used apart)

    -- it is neither a TDR page nor one of a virtual processor
    kind-off : (q : ℕ) (j : PageKind) → is_named_kind j ≡ false → w.pages.kinds q ≡ j → (q == removed.page) ≡ false
    kind-off q j h e = by_test (q == removed.page)
        (λ y. absurd (unlisted level j h (sym (node_named m w la u level number alive r.used).page.kind ∙ (ap w.pages.kinds (sym (eqb-true q _ y)) ∙ e))))
        (λ z. z)

    not-given : {j : PageKind} (q : ℕ) → w'.pages.kinds q ≡ j → (kind.Nda ≡ j → ⊥) → (q == removed.page) ≡ false
    not-given q e apart = by_test (q == removed.page) (λ y. absurd (apart (sym (rw y refl) ∙ (sym (ap (λ (z : Pages). z.kinds q) pg) ∙ e)))) (λ z. z)

    kinds-at : (q : ℕ) → (q == removed.page) ≡ false → w'.pages.kinds q ≡ w.pages.kinds q
    kinds-at q n = ap (λ (z : Pages). z.kinds q) pg ∙ rw n refl

    owners-at : (q : ℕ) → (q == removed.page) ≡ false → w'.pages.owners q ≡ w.pages.owners q
    owners-at q n = ap (λ (z : Pages). z.owners q) pg ∙ rw n refl

    is-here : (t v : ℕ) → IsHere w p t v → IsHere w' p t v
    is-here t v h =
        let x = kind-off t kind.Tdr refl h.tdr in let y = kind-off v kind.Tdvpr refl h.page.kind in
        record { tdr = kinds-at t x ∙ h.tdr; life = ap (λ (z : Tds). z.lives t) td ∙ h.life; page = record { kind = kinds-at v y ∙ h.page.kind; owner = owners-at v y ∙ h.page.owner }; associated = ap (λ (z : Vps). z.associated v) vp ∙ h.associated }

    was-here : (t v : ℕ) → IsHere w' p t v → IsHere w p t v × (w'.vps.lasts v ≡ w.vps.lasts v) × (w'.tds.epochs t ≡ w.tds.epochs t)
    was-here t v h =
        let x = not-given t h.tdr (λ e. cc) in let y = not-given v h.page.kind (λ e. cc) in (
          record { tdr = sym (kinds-at t x) ∙ h.tdr; life = sym (ap (λ (z : Tds). z.lives t) td) ∙ h.life; page = record { kind = sym (kinds-at v y) ∙ h.page.kind; owner = sym (owners-at v y) ∙ h.page.owner }; associated = sym (ap (λ (z : Vps). z.associated v) vp) ∙ h.associated },
          ap (λ (z : Vps). z.lasts v) vp,
          ap (λ (z : Tds). z.epochs t) td,
        )

    pub removed-act : LawfulTranslations w' p cs g
    removed-act =
        let enters : (x : Guest) (e : ℕ) → g ≡ Some x → w'.vps.entered x.vp ≡ Some e → w.vps.entered x.vp ≡ Some e = λ x e is n. sym (ap (λ (z : Vps). z.entered x.vp) vp) ∙ n in
        wide-frame w w' le p cs g occ is-here (λ t v h. (let k = was-here t v h in (k.0, k.1))) enters (usable-same w w' p g was-here enters)
        (λ c e bu us h. let apart = translation-apart c e us h in
        current-same w w' c e (entries-kept c.tdr 0 c.gpa_page apart) (blocked-at c.page (other-page c.tdr 0 c.gpa_page c.page bu h.named apart)) (ap (λ (z : Tds). z.ops c.tdr) td) h)
        (λ x k e is bu n h. let apart = walk-apart x k e is n h in
        walking-same w w' x.tdr k e (entries-kept x.tdr (suc k.level) (node_number k) apart) (blocked-at k.page (other-page x.tdr (suc k.level) (node_number k) k.page bu h.named apart)) h) a
