-- The words that VP.ENTER leaves show its act.
use Rattle.std.proofs.Common.{◌≡◌, ℕ, zero, suc, ◌+◌, ◌-◌, ◌%◌, ◌^◌, ◌<◌, ◌≤◌, true, false, not, ◌==◌, List, [], ◌∷◌, length, Option, Some, None, refl, ap, sym, ◌∙◌, subst, arith}
use Rattle.std.specs.Prelude.{nat_le}
use Rattle.std.specs.List.{list_any}
use Rattle.std.proofs.lemmas.Bool.{eq-eqb, eqb-true, leb-true, and_parts, not-true}
use Rattle.std.proofs.lemmas.Bool.Decides.{nat_tests}
use Rattle.td_words.specs.declared.names.PageKind.TheVariants as kind
use Rattle.td_words.specs.declared.machines.Machine.{Machine}
use Rattle.td_words.specs.Place.{WordPlace, IsIn}
use Rattle.td_words.specs.Place as place
use Rattle.flat_core.specs.World.{World, put}
use Rattle.flat_core.specs.Processor.{LockId}
use Rattle.flat_core.specs.Effects.{enter_guest}
use Rattle.flat_core.specs.Lawful.{Lawful, IsAlive, IsPageOf, ArePagesOf, all_differ}
use Rattle.flat_core.specs.Event.{State}
use Rattle.flat_core.proofs.Tests.{by_test}
use Rattle.word_rules.specs.Lines.{in_lines}
use Rattle.word_rules.specs.Cells.{Shows, IsAs, cell, vp_lines, td_lock_lines, tdcs_lines, lock_word, one_of_parity, entered_of_parity}
use Rattle.lock_words.specs.LockWords.{put_word}
use Rattle.leaf_engine.specs.Changes.{Memory, changed_all}
use Rattle.leaf_parts.proofs.Aside.{ShowsBut, apart, turned, aside, back, page-put, tdcs-but}
use Rattle.leaf_parts.proofs.Vps.{vp-shown}
use Rattle.vcpu_control.specs.EnterTrees.{enter_changes}

-- counts of a parity where one virtual processor enters

pub absent : (f : ℕ → Option ℕ) (v b : ℕ) (new : Option ℕ) (vs : List ℕ) → list_any (λ q. q == v) vs ≡ false → entered_of_parity b (put f v new) vs ≡ entered_of_parity b f vs
absent f v b new [] none = refl
absent f v b new (x ∷ vs) none = by_test (x == v)
    (λ y. absurd (let no : true ≡ false = rw y at none in cc))
    (λ n. (let rest : list_any (λ q. q == v) vs ≡ false = rw n at none in rw n (ap (λ (z : ℕ). one_of_parity b (f x) + z) (absent f v b new vs rest))))

one-in : (f : ℕ → Option ℕ) (v e : ℕ) (vs : List ℕ) → f v ≡ None → all_differ vs ≡ true → list_any (λ q. q == v) vs ≡ true
    → entered_of_parity (e % 2) (put f v (Some e)) vs ≡ entered_of_parity (e % 2) f vs + 1
one-in f v e [] out differ listed = cc
one-in f v e (x ∷ vs) out differ listed =
    let parts = and_parts (not (list_any (λ q. q == x) vs)) (all_differ vs) differ in
    by_test (x == v)
    (λ y. (let is : x ≡ v = eqb-true x v y in
    let none : list_any (λ q. q == v) vs ≡ false = subst (λ (z : ℕ). list_any (λ q. q == z) vs ≡ false) is (not-true (list_any (λ q. q == x) vs) parts.0) in
    let outside : f x ≡ None = ap f is ∙ out in
    let rest : entered_of_parity (e % 2) (put f v (Some e)) vs ≡ entered_of_parity (e % 2) f vs = absent f v (e % 2) (Some e) vs none in
    rw (y, outside, eq-eqb (e % 2) (e % 2) refl, rest) (omega arith)))
    (λ n. (let more : list_any (λ q. q == v) vs ≡ true = rw n at listed in
    let rest : entered_of_parity (e % 2) (put f v (Some e)) vs ≡ entered_of_parity (e % 2) f vs + 1 = one-in f v e vs out parts.1 more in
    rw (n, rest) (omega arith)))

other-parity : (f : ℕ → Option ℕ) (v e b : ℕ) (vs : List ℕ) → f v ≡ None → (e % 2 == b) ≡ false → entered_of_parity b (put f v (Some e)) vs ≡ entered_of_parity b f vs
other-parity f v e b [] out n = refl
other-parity f v e b (x ∷ vs) out n = by_test (x == v)
    (λ y. (let outside : f x ≡ None = ap f (eqb-true x v y) ∙ out in rw (y, n, outside) (ap (λ (z : ℕ). 0 + z) (other-parity f v e b vs out n))))
    (λ m. rw m (ap (λ (z : ℕ). one_of_parity b (f x) + z) (other-parity f v e b vs out n)))

one-small : (b : ℕ) (o : Option ℕ) → one_of_parity b o ≤ 1
one-small b None = omega arith
one-small b (Some e) = by_test (e % 2 == b) (λ y. rw y (omega arith)) (λ n. rw n (omega arith))

pub few-in : (f : ℕ → Option ℕ) (b : ℕ) (vs : List ℕ) → entered_of_parity b f vs ≤ length vs
few-in f b [] = omega arith
few-in f b (x ∷ vs) = (let one = one-small b (f x) in let rest = few-in f b vs in omega (arith, one, rest))

pub elsewhere : (w : World) (t v u b : ℕ) (new : Option ℕ) (vs : List ℕ) → w.pages.owners v ≡ t → (u == t) ≡ false → ArePagesOf w.pages u kind.Tdvpr vs → entered_of_parity b (put w.vps.entered v new) vs ≡ entered_of_parity b w.vps.entered vs
elsewhere w t v u b new [] own n a = refl
elsewhere w t v u b new (x ∷ vs) own n a = by_test (x == v)
    (λ y. absurd (let is : x ≡ v = eqb-true x v y in
    let same : u ≡ t = sym a.0.owner ∙ (ap w.pages.owners is ∙ own) in let no : true ≡ false = sym (eq-eqb u t same) ∙ n in cc))
    (λ z. rw z (ap (λ (k : ℕ). one_of_parity b (w.vps.entered x) + k) (elsewhere w t v u b new vs own n a.1)))

-- the lines of the two counts
pub count-line : (w : World) (locks : LockId → ℕ) (t b : ℕ) → b < 2 → in_lines (td_lock_lines locks t (tdcs_lines w t)) (6 + b) ≡ Some (entered_of_parity b w.vps.entered (w.tds.vps t))
count-line w locks t zero h = refl
count-line w locks t (suc zero) h = refl
count-line w locks t (suc (suc b)) h = absurd (omega (arith, h))

module _ (m : Machine) (s : State) (mem : Memory) (me t v d r : ℕ) (sh : Shows m mem.words mem.slots s) (la : Lawful m s.world) (alive : IsAlive s.world.pages s.world.tds t) (two : s.world.tds.controls t ≡ d ∷ r ∷ [])
    (tdcs : IsPageOf s.world.pages t d kind.Tdcx) (its : IsPageOf s.world.pages t v kind.Tdvpr) (d_in : d < m.pages) (in_page : v < m.pages) (out : s.world.vps.entered v ≡ None) where
  abbrev w : World
  w = s.world

  abbrev e : ℕ
  e = w.tds.epochs t

  abbrev b : ℕ
  b = e % 2

  abbrev w' : World
  w' = enter_guest me v e w

  abbrev locks : LockId → ℕ
  locks = lock_word s.lps s.lp_count

  abbrev after : Memory
  after = changed_all (enter_changes d me v e) mem

  abbrev raised : WordPlace → ℕ
  raised = put_word mem.words (place.Word d (6 + b)) ((mem.words (place.Word d (6 + b)) + 1) % 2 ^ 64)

  parity : b < 2
  parity = omega arith

  itself : (q : ℕ) → (q == q) ≡ true
  itself q = eq-eqb q q refl

  d-v : (d == v) ≡ false
  d-v = apart w.pages.kinds d v kind.Tdcx kind.Tdvpr tdcs.kind its.kind (λ x. cc)

  -- what TDCS says
  told : (i : ℕ) → i < 512 → IsAs (in_lines (td_lock_lines locks t (tdcs_lines w t)) i) (mem.words (place.Word d i))
  told i i_in = rw (tdcs.kind, tdcs.owner, alive.life, two, itself d) at (sh.word (place.Word d i) (d_in, i_in))

  count-told : mem.words (place.Word d (6 + b)) ≡ entered_of_parity b w.vps.entered (w.tds.vps t)
  count-told = subst (λ (o : Option ℕ). IsAs o (mem.words (place.Word d (6 + b)))) (count-line w locks t b parity) (told (6 + b) (omega (arith, parity)))

  listed : list_any (λ q. q == v) (w.tds.vps t) ≡ true
  listed = rw its.owner at (la.lists.vp v its.kind (rw its.owner alive))

  one-more : (mem.words (place.Word d (6 + b)) + 1) % 2 ^ 64 ≡ entered_of_parity b w'.vps.entered (w.tds.vps t)
  one-more =
      let more : entered_of_parity b w'.vps.entered (w.tds.vps t) ≡ entered_of_parity b w.vps.entered (w.tds.vps t) + 1 = one-in w.vps.entered v e (w.tds.vps t) out (la.tds.vps_differ t) listed in
      let few : entered_of_parity b w.vps.entered (w.tds.vps t) ≤ length (w.tds.vps t) = few-in w.vps.entered b (w.tds.vps t) in
      let eight : length (w.tds.vps t) ≤ 8 = la.tds.vps_few t in
      rw count-told (rw more (omega (arith, few, eight)))

  other-line : (i : ℕ) → (i == 6 + b) ≡ false → in_lines (td_lock_lines locks t (tdcs_lines w' t)) i ≡ in_lines (td_lock_lines locks t (tdcs_lines w t)) i
  other-line i n = by_test (nat_le 6 i)
      (λ y. (let long : 6 ≤ i = leb-true 6 i y in let differ : (b == i - 6) ≡ false = grind (arith, nat_tests) in rw (other-parity w.vps.entered v e (i - 6) (w.tds.vps t) out differ) refl))
      (λ y. rw y refl)

  tdcs-here : (i : ℕ) → i < 512 → IsAs (in_lines (td_lock_lines locks t (tdcs_lines w' t)) i) (raised (place.Word d i))
  tdcs-here i i_in = by_test (i == 6 + b)
      (λ y. subst (λ (j : ℕ). IsAs (in_lines (td_lock_lines locks t (tdcs_lines w' t)) j) (raised (place.Word d j))) (sym (eqb-true i (6 + b) y))
      (subst (λ (o : Option ℕ). IsAs o (raised (place.Word d (6 + b)))) (sym (count-line w' locks t b parity)) (rw (itself d, itself (6 + b)) one-more)))
      (λ n. (let same : mem.words (place.Word d i) ≡ raised (place.Word d i) = rw (itself d, n) refl in
      subst (λ (x : ℕ). IsAs (in_lines (td_lock_lines locks t (tdcs_lines w' t)) i) x) same (subst (λ (o : Option ℕ). IsAs o (mem.words (place.Word d i))) (sym (other-line i n)) (told i i_in))))

  tdcs-word : (i : ℕ) → IsIn m (place.Word d i) → IsAs (cell (record s { world = w' }) (place.Word d i)) (raised (place.Word d i))
  tdcs-word i i_in = (let there : cell (record s { world = w' }) (place.Word d i) ≡ in_lines (td_lock_lines locks t (tdcs_lines w' t)) i = rw (tdcs.kind, tdcs.owner, alive.life, two, itself d) refl in
      subst (λ (o : Option ℕ). IsAs o (raised (place.Word d i))) (sym there) (tdcs-here i i_in.1))

  counted-but : ShowsBut v m raised (record s { world = w' })
  counted-but = page-put w' (aside v m mem.words s sh.word) d raised (record {
    kinds = refl;
    owners = refl;
    blocked = refl;
    key_table = refl;
    page = λ q o z. record {
      words = λ i. refl;
      tdr = λ is i. refl;
      owned = λ h. record {
        stands = λ n. n;
        level = refl;
        number = refl;
        entries = λ l x. refl;
        vp = λ i. rw o refl;
        stream = λ i. refl;
        control = λ is n. tdcs-but refl (λ l x. refl) t d (r ∷ []) two z
            (λ u i. rw (elsewhere w t v (w.pages.owners q) (i - 6) (Some e) (w.tds.vps (w.pages.owners q)) its.owner u (la.tds.vps (w.pages.owners q) (record { kind = la.pages.owner q h; life = n }))) refl);
      };
    };
  }) (λ q. refl) (λ q. refl) (λ k. refl) (λ q i n. rw n refl) tdcs-word

  vp-line : (i : ℕ) → (i == 3) ≡ false → (i == 2) ≡ false → in_lines (vp_lines w' v) i ≡ in_lines (vp_lines w v) i
  vp-line i three two-not = rw (three, two-not) refl

  vp-word : (i : ℕ) → i < 512 → IsAs (in_lines (vp_lines w' v) i) (after.words (place.Word v i))
  vp-word i i_in = by_test (i == 3)
      (λ y. rw (y, eqb-true i 3 y, itself v) refl)
      (λ three. by_test (i == 2)
      (λ y. rw (y, eqb-true i 2 y, itself v) refl)
      (λ not-two. (let same : mem.words (place.Word v i) ≡ after.words (place.Word v i) = rw (itself v, three, not-two, turned d v d-v) refl in
      subst (λ (x : ℕ). IsAs (in_lines (vp_lines w' v) i) x) same (subst (λ (o : Option ℕ). IsAs o (mem.words (place.Word v i))) (sym (vp-line i three not-two)) (vp-shown m mem.words mem.slots s sh t alive.life v i its in_page i_in)))))

  pub entered : Shows m after.words after.slots (record s { world = w' })
  entered = record {
    word = back counted-but after.words (λ q. refl) (λ q. refl) (λ k. refl) (λ q i o. rw o refl) (λ i i_in. rw (its.kind, its.owner, alive.life) (vp-word i i_in));
    hasher = sh.hasher;
  }
