-- The act of each row, and of an acceptance, keeps what cached translations and walks say.
use Rattle.std.proofs.Common.{◌≡◌, ◌≢◌, inl, inr, refl, sym, ◌∙◌, subst, ap, ℕ, suc, ◌≤◌, List, Option, Some, None, true, false, not, ◌==◌}
use Rattle.std.proofs.lemmas.Bool.{eq-eqb, eqb-true, eqb-false, ne_eqb}
use Rattle.td_words.specs.declared.names.PageKind.TheVariants as kind
use Rattle.td_words.specs.declared.names.LifeState.TheVariants as life
use Rattle.td_words.specs.declared.names.EntryState.TheVariants as entry
use Rattle.td_words.specs.declared.machines.Machine.{Machine}
use Rattle.td_words.specs.declared.calls.Call.{Call}
use Rattle.td_words.specs.declared.calls.Call.TheVariants as call
use Rattle.td_words.specs.Packing.{Entry, is_exported, AssignedTo}
use Rattle.flat_core.specs.World.{World, Pages, Tds, put}
use Rattle.flat_core.specs.Processor.{Translation, Guest}
use Rattle.flat_core.specs.Opening.{Opening}
use Rattle.flat_core.specs.Row.{Passes}
use Rattle.flat_core.specs.Conditions.{is_elsewhere}
use Rattle.flat_core.specs.Effects.{put_in, take_page, clear_page, set_key, new_td, give_back, enter_guest, end_association, end_memory_in}
use Rattle.flat_core.specs.Table.{row_of}
use Rattle.flat_core.specs.Lawful.{Lawful}
use Rattle.flat_core.specs.Guests.{IsOccupied}
use Rattle.flat_core.specs.Exports.{entries_where}
use Rattle.flat_core.specs.Access.{IsHere, entry_of, node_number, is_pending, may_be_exempt, has_not_run, LawfulTranslations, LawfulEpochs}
use Rattle.flat_core.proofs.Tests.{by_test, host_kind}
use Rattle.flat_core.proofs.Maps.{node_named}
use Rattle.flat_core.proofs.Numbers.{holds_of_none}
use Rattle.flat_core.proofs.Shapes.{Aspect, aspect_of, OpGoes, unrun, runs, restored, EpochGoes, stay, begin, BlockGoes, noted, open_on, Takes, Reclaims, Begins, ChangesLife, ChangesOp, Enters, Flushes, ChangesEntry, Shape, notes, fills, takes, reclaims, unmaps, begins, changes_life, changes_op, changes_vp, enters, flushes, changes_entry, advances, ActShape, one, moves, page_by_page, by_shapes, unmaps_kept, owner_reclaimed}
use Rattle.flat_core.proofs.ShapeOf.{shape_of}
use Rattle.flat_core.proofs.Epochs.{act-epochs}
use Rattle.flat_core.proofs.Spared.{unmaps_spares, of_pages_spares}
use Rattle.flat_core.proofs.Sparing.{idle_off}
use Rattle.flat_core.proofs.AccessActs.{unexempt, here-as, IsBuilt, frame, current-same, walking-same, entry-apart, quiet-act, taken-act, op-off, op-act, host-act, restated-act, block-noted, raised-act, removed-act}

module _ (me : ℕ) (c : Call) (m : Machine) (w w' : World) (la : Lawful m w) (le : LawfulEpochs w) (p : ℕ) (cs : List Translation) (g : Option Guest) (occ : (x : Guest) → g ≡ Some x → IsOccupied w p x.tdr x.vp) (a : LawfulTranslations w p cs g) where
  by-world : (u : World) → w' ≡ u → LawfulTranslations u p cs g → LawfulTranslations w' p cs g
  by-world u e h = subst (λ (z : World). LawfulTranslations z p cs g) (sym e) h

  by-aspect : (x : Aspect) → aspect_of w' ≡ x → x.pages ≡ w.pages → x.lives ≡ w.tds.lives → x.ops ≡ w.tds.ops → x.epochs ≡ w.tds.epochs → x.entries ≡ w.tds.entries
      → x.vps.associated ≡ w.vps.associated → x.vps.lasts ≡ w.vps.lasts → x.vps.entered ≡ w.vps.entered → LawfulTranslations w' p cs g
  by-aspect x e pg lv os ep en assoc ls et =
      quiet-act m w la le p cs g occ a w' (ap (λ (z : Aspect). z.pages) e ∙ pg) (ap (λ (z : Aspect). z.lives) e ∙ lv) (ap (λ (z : Aspect). z.ops) e ∙ os) (ap (λ (z : Aspect). z.epochs) e ∙ ep)
      (ap (λ (z : Aspect). z.entries) e ∙ en) (ap (λ (z : Aspect). z.vps.associated) e ∙ assoc) (ap (λ (z : Aspect). z.vps.lasts) e ∙ ls) (ap (λ (z : Aspect). z.vps.entered) e ∙ et)

  takes-access : Takes w w' → LawfulTranslations w' p cs g
  takes-access x =
      host-act m w la le p cs g occ a x.page x.becomes x.tdr x.level x.number (host_kind _ x.host) w' (ap (λ (z : Aspect). z.pages) x.rest)
      (λ e. absurd (x.no_tdr e)) (λ e h. let no : None ≡ Some p = sym (x.begun e).2 ∙ h in cc)
      (λ t n. ap (λ (z : Aspect). z.lives t) x.rest) (λ t n. ap (λ (z : Aspect). z.ops t) x.rest) (λ t n. ap (λ (z : Aspect). z.epochs t) x.rest) (λ t l n y f. x.entries t l n f)
      (λ v n. (x.vps v n).associated) (λ v n. (x.vps v n).last) (λ v n. (x.vps v n).entered)

  reclaims-access : (x : Reclaims c w w') → LawfulTranslations (give_back x.page (end_memory_in x.tdr x.page w)) p cs g
  reclaims-access y =
      let q = y.page in
      let another : (t : ℕ) → IsBuilt w t → (t == y.tdr) ≡ false = λ t bu. by_test (t == y.tdr)
      (λ z. absurd (let at : w.tds.lives y.tdr ≡ life.KeysConfigured = ap w.tds.lives (sym (eqb-true t y.tdr z)) ∙ bu.life in let no : true ≡ false = sym y.dead ∙ rw at refl in cc)) (λ z. z) in
      taken-act m w la le p cs g occ a q kind.Nda 0 0 0
      (λ t x bu o nn. by_test (x == q) (λ z. absurd (eqb-false t y.tdr (another t bu) (sym o ∙ (ap w.pages.owners (eqb-true x q z) ∙ owner_reclaimed m c w w' la y)))) (λ z. z)) _ refl
      (λ t v h. refl) (λ t e nn. e)
      (λ t v h. (by_test (t == q) (λ z. absurd (let no : kind.Nda ≡ kind.Tdr = rw z at h.tdr in cc)) (λ z. z), by_test (v == q) (λ z. absurd (let no : kind.Nda ≡ kind.Tdvpr = rw z at h.page.kind in cc)) (λ z. z)))
      (λ t bu. refl) (λ t bu. refl) (λ t l x bu f. refl) (λ v nn. refl) (λ v nn. refl) (λ v nn. refl)

  begins-access : (x : Begins c w w') → LawfulTranslations (set_key x.hkid (AssignedTo x.tdr) (new_td x.tdr x.hkid (clear_page x.tdr (take_page x.tdr kind.Tdr x.tdr w)))) p cs g
  begins-access y =
      let u = y.tdr in
      host-act m w la le p cs g occ a u kind.Tdr u 0 0 (host_kind _ y.host) _ refl
      (λ e l. let z : (u == u) ≡ true = eq-eqb u u refl in let no : life.HkidAssigned ≡ life.KeysConfigured = rw z at l in cc) (λ e. cc)
      (λ t x. rw x refl) (λ t x. rw x refl) (λ t x. rw x refl) (λ t l i x f. rw x refl) (λ v x. refl) (λ v x. refl) (λ v x. refl)

  life-access : ChangesLife c w w' → LawfulTranslations w' p cs g
  life-access x =
      let e = x.rest in
      op-act m w la le p cs g occ a w' (ap (λ (z : Aspect). z.pages) e) (ap (λ (z : Aspect). z.vps) e)
      (λ t v h. let off = idle_off m c w w' la x p t v h in ap (λ (z : Aspect). z.lives t) e ∙ rw off refl)
      (λ t v h. (le.bound t v p (ap (λ (z : Aspect). z.pages.kinds t) (sym e) ∙ h.tdr)
      (record { kind = ap (λ (z : Aspect). z.pages.kinds v) (sym e) ∙ h.page.kind; owner = ap (λ (z : Aspect). z.pages.owners v) (sym e) ∙ h.page.owner }) (ap (λ (z : Aspect). z.vps.associated v) (sym e) ∙ h.associated)).0)
      (λ t n bu s k. ap (λ (z : Aspect). may_be_exempt (z.ops t)) e ∙ k) (λ t bu. ap (λ (z : Aspect). z.epochs t) e) (λ t l n bu f. ap (λ (z : Aspect). z.entries t l n) e)

  module _ (x : ChangesOp c w w') where
    -- what is exempt is so still
    exempt : OpGoes w x.tdr x.then_in → (n : ℕ) → IsBuilt w x.tdr → (w.tds.entries x.tdr 0 n).state ≡ entry.ExportedBlockedW → may_be_exempt x.then_in ≡ true
    exempt (unrun n) i bu s = (let no : true ≡ false = sym n ∙ bu.running in cc)
    exempt (runs r s) i bu e = s
    exempt (restored r alive none) i bu s =
        let zero_is : entries_where is_exported m.pages w.pages w.tds x.tdr ≡ 0 = la.counts.unrestored x.tdr alive ∙ eqb-true _ 0 none in
        absurd (unexempt _ (holds_of_none m w la x.tdr alive is_exported (λ z h. h) zero_is i) s)

    -- TD_EPOCH begins before anything runs
    epoch-stays : EpochGoes w w' x.tdr → (t : ℕ) → IsBuilt w t → w'.tds.epochs t ≡ w.tds.epochs t
    epoch-stays (stay e) t bu = ap (λ (z : ℕ → ℕ). z t) e
    epoch-stays (begin k n e) t bu = ap (λ (z : ℕ → ℕ). z t) e ∙ (let off = op-off m w la le p cs g occ a x.tdr (ap has_not_run n) t bu in rw off refl)

    op-access : LawfulTranslations w' p cs g
    op-access =
        let e = x.rest in
        op-act m w la le p cs g occ a w' (ap (λ (z : Aspect). z.pages) e) (ap (λ (z : Aspect). z.vps) e) (λ t v h. ap (λ (z : Aspect). z.lives t) e) (λ t v h. ap (λ (z : Aspect). z.lives t) (sym e) ∙ h.life)
        (λ t i bu s k. ap (λ (z : Aspect). may_be_exempt (z.ops t)) e
        ∙ by_test (t == x.tdr) (λ y. let here = eqb-true t x.tdr y in rw y (exempt x.goes i (subst (λ (z : ℕ). IsBuilt w z) here bu) (ap (λ (z : ℕ). (w.tds.entries z 0 i).state) (sym here) ∙ s))) (λ y. rw y k))
        (epoch-stays x.epochs) (λ t l i bu f. ap (λ (z : Aspect). z.entries t l i) e)

  -- one that is associated with this processor isn't the one that another one enters or flushes
  elsewhere : p ≢ me → (v : ℕ) → not (is_elsewhere me (w.vps.associated v)) ≡ true → (x : ℕ) → w.vps.associated x ≡ Some p → (x == v) ≡ false
  elsewhere apart v h x e = by_test (x == v)
      (λ y. absurd (let here : w.vps.associated v ≡ Some p = ap w.vps.associated (sym (eqb-true x v y)) ∙ e in
      let d : (p == me) ≡ false = ne_eqb p me apart in
      let ok : not (is_elsewhere me (Some p)) ≡ true = subst (λ (z : Option ℕ). not (is_elsewhere me z) ≡ true) here h in
      let bad : false ≡ true = rw d at ok in cc))
      (λ z. z)

  enters-access : (x : Enters me c w w') → p ≢ me → LawfulTranslations (enter_guest me x.vp (w.tds.epochs x.tdr) w) p cs g
  enters-access y apart =
      let v = y.vp in
      let off = elsewhere apart v y.here in
      let u : World = enter_guest me v (w.tds.epochs y.tdr) w in
      let mine : (t x : ℕ) → IsHere u p t x → (x == v) ≡ false = λ t x h. by_test (x == v)
      (λ y. absurd (apart (let z : Some me ≡ Some p = rw y at h.associated in let k : me ≡ p = cc in sym k))) (λ z. z) in
      frame w u le p cs g occ
      (λ t x h. let y = off x h.associated in record { tdr = h.tdr; life = h.life; page = record { kind = h.page.kind; owner = h.page.owner }; associated = rw y (h.associated) })
      (λ t x h. let y = mine t x h in (record { tdr = h.tdr; life = h.life; page = record { kind = h.page.kind; owner = h.page.owner }; associated = rw y at h.associated }, rw y refl, refl))
      (λ x e is k. let y = off x.vp (occ x is).associated in rw y at k)
      (λ c e bu h. current-same w u c e refl refl refl h)
      (λ t k e bu h. walking-same w u t k e refl refl h) a

  flushes-access : (x : Flushes me c w w') → p ≢ me → LawfulTranslations (end_association x.vp w) p cs g
  flushes-access y apart =
      let v = y.vp in
      let off = elsewhere apart v y.here in
      let u : World = end_association v w in
      let mine : (t x : ℕ) → IsHere u p t x → (x == v) ≡ false = λ t x h. by_test (x == v) (λ y. absurd (let no : None ≡ Some p = rw y at h.associated in cc)) (λ z. z) in
      frame w u le p cs g occ
      (λ t x h. let y = off x h.associated in record { tdr = h.tdr; life = h.life; page = record { kind = h.page.kind; owner = h.page.owner }; associated = rw y (h.associated) })
      (λ t x h. let y = mine t x h in (record { tdr = h.tdr; life = h.life; page = record { kind = h.page.kind; owner = h.page.owner }; associated = rw y at h.associated }, refl, refl))
      (λ x e is z. z)
      (λ c e bu h. current-same w u c e refl refl refl h)
      (λ t z e bu h. walking-same w u t z e refl refl h) a

  module _ (x : ChangesEntry w w') where
    abbrev named : Entry
    named = w.tds.entries x.tdr x.level x.number

    entry-access : BlockGoes w x.tdr named x.then_in x.blocked → LawfulTranslations w' p cs g
    entry-access (noted alive b) =
        let own : w.pages.owners named.page ≡ x.tdr = (node_named m w la x.tdr x.level x.number alive x.used).page.owner in
        let here : (e : ℕ) → e ≤ w.tds.epochs x.tdr → e ≤ x.blocked named.page = λ e low. subst (λ (f : ℕ → ℕ). e ≤ f named.page) (sym b) (let z = eq-eqb named.page named.page refl in rw z low) in
        restated-act m w la le p cs g occ a x.tdr x.level x.number x.then_in x.mark x.blocked x.still_used x.same_pending
        (λ t q e o low h. subst (λ (f : ℕ → ℕ). e ≤ f q) (sym b) (block-noted m w la le p cs g occ a x.tdr named.page own t q e o low h)) (λ writes e less low. inl (here e low)) (λ e off low. inl (here e low))
        w' (ap (λ (z : Aspect). z.pages) x.rest) (ap (λ (z : Aspect). z.lives) x.rest) (ap (λ (z : Aspect). z.ops) x.rest) (ap (λ (z : Aspect). z.epochs) x.rest) (ap (λ (z : Aspect). z.entries) x.rest) (ap (λ (z : Aspect). z.vps) x.rest)
    entry-access (open_on b leaf fewer) =
        restated-act m w la le p cs g occ a x.tdr x.level x.number x.then_in x.mark x.blocked x.still_used x.same_pending
        (λ t q e o low h. subst (λ (f : ℕ → ℕ). e ≤ f q) (sym b) h) (λ writes e less low. inr (fewer writes less)) (λ e off low. inr leaf)
        w' (ap (λ (z : Aspect). z.pages) x.rest) (ap (λ (z : Aspect). z.lives) x.rest) (ap (λ (z : Aspect). z.ops) x.rest) (ap (λ (z : Aspect). z.epochs) x.rest) (ap (λ (z : Aspect). z.entries) x.rest) (ap (λ (z : Aspect). z.vps) x.rest)

  shape-access : Shape me c w w' → ((t v most : ℕ) → c ≡ call.VpEnter t v most → p ≢ me) → ((t v : ℕ) → c ≡ call.VpFlush t v → p ≢ me) → LawfulTranslations w' p cs g
  shape-access (notes x) n k = by-aspect _ x.rest refl refl refl refl refl refl refl refl
  shape-access (fills x) n k = by-aspect _ x.rest refl refl refl refl refl refl refl refl
  shape-access (takes x held) n k = takes-access x
  shape-access (reclaims x) n k = by-world _ x.is (reclaims-access x)
  shape-access (unmaps x) n k = by-world _ x.is (removed-act m w la le p cs g occ a x.tdr x.level x.number x.alive x.removed x.empty x.tracked _ refl refl refl)
  shape-access (begins x) n k = by-world _ x.is (begins-access x)
  shape-access (changes_life x) n k = life-access x
  shape-access (changes_op x) n k = op-access x
  shape-access (changes_vp x) n k = by-aspect _ x.rest refl refl refl refl refl refl refl refl
  shape-access (enters x) n k = by-world _ x.is (enters-access x (n x.tdr x.vp x.most x.call))
  shape-access (flushes x) n k = by-world _ x.is (flushes-access x (k x.tdr x.vp x.call))
  shape-access (changes_entry x) n k = entry-access x x.block
  shape-access (advances x) n k = by-world _ x.is (raised-act m w la le p cs g occ a x.tdr)

-- what holds from page to page of a list
record GoesOn (w : World) (p : ℕ) (cs : List Translation) (g : Option Guest) : Type 0 where
  pub epochs : LawfulEpochs w
  pub occupied : (x : Guest) → g ≡ Some x → IsOccupied w p x.tdr x.vp
  pub translations : LawfulTranslations w p cs g

act-access : (me : ℕ) (c : Call) (m : Machine) (w w' : World) → Lawful m w → LawfulEpochs w → (p : ℕ) (cs : List Translation) (g : Option Guest) → ((x : Guest) → g ≡ Some x → IsOccupied w p x.tdr x.vp) → LawfulTranslations w p cs g
    → ActShape m me c w w' → ((t v most : ℕ) → c ≡ call.VpEnter t v most → p ≢ me) → ((t v : ℕ) → c ≡ call.VpFlush t v → p ≢ me) → LawfulTranslations w' p cs g
act-access me c m w w' la le p cs g occ a (one x) n k = shape-access me c m w w' la le p cs g occ a x n k
act-access me c m w w' la le p cs g occ a (moves v x y held) n k =
    takes-access me c m v w' (unmaps_kept m c w v la x) (act-epochs me c m w v la le (one (unmaps x))) p cs g
    (λ z is. (unmaps_spares m w v la p z.tdr z.vp (occ z is) c x).occupied) (shape-access me c m w v la le p cs g occ a (unmaps x) n k) y
act-access me c m w w' la le p cs g occ a (page_by_page none x) n k =
    (by_shapes w w' w Goes (λ v u l y of h. record {
      epochs = act-epochs me c m v u (l la) h.epochs (one y);
      occupied = λ z is. (of_pages_spares m v u (l la) p z.tdr z.vp (h.occupied z is) y of).occupied;
      translations = shape-access me c m v u (l la) h.epochs p cs g h.occupied h.translations y n k;
    }) (λ l. l) x (record { epochs = le; occupied = occ; translations = a })).translations
  where
    Goes : World → Type 0
    Goes v = GoesOn v p cs g

pub row-access : (o : Opening) (w : World) → Lawful o.machine w → LawfulEpochs w → (p : ℕ) (cs : List Translation) (g : Option Guest)
    → ((x : Guest) → g ≡ Some x → IsOccupied w p x.tdr x.vp) → LawfulTranslations w p cs g
    → (me : ℕ) (c : Call) → Passes ((row_of o me c).items w) → ((t v most : ℕ) → c ≡ call.VpEnter t v most → p ≢ me)
    → ((t v : ℕ) → c ≡ call.VpFlush t v → p ≢ me) → LawfulTranslations ((row_of o me c).act w) p cs g
row-access o w la le p cs g occ a me c ps = act-access me c o.machine w ((row_of o me c).act w) la le p cs g occ a (shape_of o me c w ps)

module _ (m : Machine) (w : World) (la : Lawful m w) (le : LawfulEpochs w) (p : ℕ) (cs : List Translation) (g : Option Guest) (occ : (x : Guest) → g ≡ Some x → IsOccupied w p x.tdr x.vp) (a : LawfulTranslations w p cs g) where
  -- A page that was PENDING is MAPPED. Nothing that may be used names it.
  pub accept-access : (w' : World) (u n : ℕ) (x : Entry) → is_pending (w.tds.entries u 0 n).state ≡ true
      → w'.pages ≡ w.pages → w'.tds ≡ record (w.tds) { entries = put w.tds.entries u (put_in (w.tds.entries u) 0 n x) }
      → w'.vps.associated ≡ w.vps.associated → w'.vps.lasts ≡ w.vps.lasts → w'.vps.entered ≡ w.vps.entered → LawfulTranslations w' p cs g
  accept-access w' u n x pending pg td assoc ls et =
      frame w w' le p cs g occ
      (λ t v h. here-as w w' (ap (λ (z : Pages). z.kinds) pg) (ap (λ (z : Pages). z.owners) pg) assoc p t v (ap (λ (z : Tds). z.lives t) td) h)
      (λ t v h. (here-as w' w (ap (λ (z : Pages). z.kinds) (sym pg)) (ap (λ (z : Pages). z.owners) (sym pg)) (sym assoc) p t v (sym (ap (λ (z : Tds). z.lives t) td)) h, ap (λ (z : ℕ → ℕ). z v) ls, ap (λ (z : Tds). z.epochs t) td))
      (λ y e is k. ap (λ (z : ℕ → Option ℕ). z y.vp) (sym et) ∙ k)
      (λ c e bu h. current-same w w' c e
      (ap (λ (z : Tds). z.entries c.tdr 0 c.gpa_page) td ∙ entry-apart w u 0 n x c.tdr 0 c.gpa_page (λ a b d. apart c a d h.accepted))
      (ap (λ (z : Pages). z.blocked c.page) pg) (ap (λ (z : Tds). z.ops c.tdr) td) h)
      (λ t k e bu h. walking-same w w' t k e (ap (λ (z : Tds). z.entries t (suc k.level) (node_number k)) td ∙ entry-apart w u 0 n x t (suc k.level) (node_number k) (λ a b d. cc)) (ap (λ (z : Pages). z.blocked k.page) pg) h) a
    where
      apart : (c : Translation) → c.tdr ≡ u → c.gpa_page ≡ n → is_pending (entry_of w c).state ≡ false → ⊥
      apart c td gp ok =
          let at : entry_of w c ≡ w.tds.entries u 0 n = ap (λ (z : ℕ). w.tds.entries z 0 c.gpa_page) td ∙ ap (λ (z : ℕ). w.tds.entries u 0 z) gp in
          let no : true ≡ false = sym pending ∙ (ap (λ (e : Entry). is_pending e.state) (sym at) ∙ ok) in cc
