-- The words that the count step of an exit leaves show its act.
use Rattle.std.proofs.Common.{◌≡◌, ℕ, ◌+◌, ◌-◌, ◌%◌, ◌^◌, ◌<◌, ◌≤◌, true, false, not, ◌==◌, List, [], ◌∷◌, length, Option, Some, None, refl, ap, sym, ◌∙◌, subst, arith}
use Rattle.std.specs.Prelude.{nat_le}
use Rattle.std.specs.List.{list_any}
use Rattle.std.proofs.lemmas.Bool.{eq-eqb, eqb-true, leb-true, and_parts, not-true}
use Rattle.std.proofs.lemmas.Bool.Decides.{nat_tests}
use Rattle.td_words.specs.declared.names.PageKind.TheVariants as kind
use Rattle.td_words.specs.declared.machines.Machine.{Machine}
use Rattle.td_words.specs.Place.{WordPlace}
use Rattle.td_words.specs.Place as place
use Rattle.flat_core.specs.World.{World, put}
use Rattle.flat_core.specs.Processor.{LockId}
use Rattle.flat_core.specs.Effects.{leave_guest}
use Rattle.flat_core.specs.Lawful.{Lawful, IsAlive, IsPageOf, all_differ}
use Rattle.flat_core.specs.Event.{State}
use Rattle.flat_core.proofs.Tests.{by_test}
use Rattle.word_rules.specs.Lines.{in_lines}
use Rattle.word_rules.specs.Cells.{Shows, IsAs, cell, td_lock_lines, tdcs_lines, lock_word, one_of_parity, entered_of_parity}
use Rattle.leaf_engine.specs.Changes.{Memory, changed_all}
use Rattle.leaf_parts.proofs.Aside.{aside, back, kept-but, tdcs-but}
use Rattle.vcpu_control.specs.EnterShows.{absent, few-in, elsewhere, count-line}
use Rattle.vcpu_control.specs.ExitTrees.{exit_changes}

-- counts of a parity where one virtual processor leaves

one-out : (f : ℕ → Option ℕ) (v e : ℕ) (vs : List ℕ) → f v ≡ Some e → all_differ vs ≡ true → list_any (λ q. q == v) vs ≡ true
    → entered_of_parity (e % 2) f vs ≡ entered_of_parity (e % 2) (put f v None) vs + 1
one-out f v e [] counted differ listed = cc
one-out f v e (x ∷ vs) counted differ listed =
    let parts = and_parts (not (list_any (λ q. q == x) vs)) (all_differ vs) differ in
    by_test (x == v)
    (λ y. (let is : x ≡ v = eqb-true x v y in
    let none : list_any (λ q. q == v) vs ≡ false = subst (λ (z : ℕ). list_any (λ q. q == z) vs ≡ false) is (not-true (list_any (λ q. q == x) vs) parts.0) in
    let inside : f x ≡ Some e = ap f is ∙ counted in
    let rest : entered_of_parity (e % 2) (put f v None) vs ≡ entered_of_parity (e % 2) f vs = absent f v (e % 2) None vs none in
    rw (y, inside, eq-eqb (e % 2) (e % 2) refl, rest) (omega arith)))
    (λ n. (let more : list_any (λ q. q == v) vs ≡ true = rw n at listed in
    let rest : entered_of_parity (e % 2) f vs ≡ entered_of_parity (e % 2) (put f v None) vs + 1 = one-out f v e vs counted parts.1 more in
    rw (n, rest) (omega arith)))

other-parity : (f : ℕ → Option ℕ) (v e b : ℕ) (vs : List ℕ) → f v ≡ Some e → (e % 2 == b) ≡ false → entered_of_parity b (put f v None) vs ≡ entered_of_parity b f vs
other-parity f v e b [] counted n = refl
other-parity f v e b (x ∷ vs) counted n = by_test (x == v)
    (λ y. (let inside : f x ≡ Some e = ap f (eqb-true x v y) ∙ counted in rw (y, inside, n) (ap (λ (z : ℕ). 0 + z) (other-parity f v e b vs counted n))))
    (λ m. rw m (ap (λ (z : ℕ). one_of_parity b (f x) + z) (other-parity f v e b vs counted n)))

module _ (m : Machine) (s : State) (mem : Memory) (t v d r e : ℕ) (sh : Shows m mem.words mem.slots s) (la : Lawful m s.world) (alive : IsAlive s.world.pages s.world.tds t) (two : s.world.tds.controls t ≡ d ∷ r ∷ [])
    (tdcs : IsPageOf s.world.pages t d kind.Tdcx) (its : IsPageOf s.world.pages t v kind.Tdvpr) (d_in : d < m.pages) (counted : s.world.vps.entered v ≡ Some e) where
  abbrev w : World
  w = s.world

  abbrev b : ℕ
  b = e % 2

  abbrev w' : World
  w' = leave_guest v w

  abbrev locks : LockId → ℕ
  locks = lock_word s.lps s.lp_count

  abbrev after : Memory
  after = changed_all (exit_changes d e) mem

  parity : b < 2
  parity = omega arith

  itself : (q : ℕ) → (q == q) ≡ true
  itself q = eq-eqb q q refl

  -- what TDCS says
  told : (i : ℕ) → i < 512 → IsAs (in_lines (td_lock_lines locks t (tdcs_lines w t)) i) (mem.words (place.Word d i))
  told i i_in = rw (tdcs.kind, tdcs.owner, alive.life, two, itself d) at (sh.word (place.Word d i) (d_in, i_in))

  count-told : mem.words (place.Word d (6 + b)) ≡ entered_of_parity b w.vps.entered (w.tds.vps t)
  count-told = subst (λ (o : Option ℕ). IsAs o (mem.words (place.Word d (6 + b)))) (count-line w locks t b parity) (told (6 + b) (omega (arith, parity)))

  -- it is in the count, which falls by one
  pub one-there : entered_of_parity b w.vps.entered (w.tds.vps t) ≡ entered_of_parity b w'.vps.entered (w.tds.vps t) + 1
  one-there = one-out w.vps.entered v e (w.tds.vps t) counted (la.tds.vps_differ t) (rw its.owner at (la.lists.vp v its.kind (rw its.owner alive)))

  one-less : (mem.words (place.Word d (6 + b)) + (2 ^ 64 - 1)) % 2 ^ 64 ≡ entered_of_parity b w'.vps.entered (w.tds.vps t)
  one-less =
      let few : entered_of_parity b w'.vps.entered (w.tds.vps t) ≤ length (w.tds.vps t) = few-in w'.vps.entered b (w.tds.vps t) in
      let eight : length (w.tds.vps t) ≤ 8 = la.tds.vps_few t in
      rw count-told (rw one-there (omega (arith, few, eight)))

  other-line : (i : ℕ) → (i == 6 + b) ≡ false → in_lines (td_lock_lines locks t (tdcs_lines w' t)) i ≡ in_lines (td_lock_lines locks t (tdcs_lines w t)) i
  other-line i n = by_test (nat_le 6 i)
      (λ y. (let long : 6 ≤ i = leb-true 6 i y in let differ : (b == i - 6) ≡ false = grind (arith, nat_tests) in rw (other-parity w.vps.entered v e (i - 6) (w.tds.vps t) counted differ) refl))
      (λ y. rw y refl)

  tdcs-word : (i : ℕ) → i < 512 → IsAs (in_lines (td_lock_lines locks t (tdcs_lines w' t)) i) (after.words (place.Word d i))
  tdcs-word i i_in = by_test (i == 6 + b)
      (λ y. subst (λ (j : ℕ). IsAs (in_lines (td_lock_lines locks t (tdcs_lines w' t)) j) (after.words (place.Word d j))) (sym (eqb-true i (6 + b) y))
      (subst (λ (o : Option ℕ). IsAs o (after.words (place.Word d (6 + b)))) (sym (count-line w' locks t b parity)) (rw (itself d, itself (6 + b)) one-less)))
      (λ n. (let same : mem.words (place.Word d i) ≡ after.words (place.Word d i) = rw (itself d, n) refl in
      subst (λ (x : ℕ). IsAs (in_lines (td_lock_lines locks t (tdcs_lines w' t)) i) x) same (subst (λ (o : Option ℕ). IsAs o (mem.words (place.Word d i))) (sym (other-line i n)) (told i i_in))))

  there : (i : ℕ) → cell (record s { world = w' }) (place.Word d i) ≡ in_lines (td_lock_lines locks t (tdcs_lines w' t)) i
  there i = rw (tdcs.kind, tdcs.owner, alive.life, two, itself d) refl

  pub left : Shows m after.words after.slots (record s { world = w' })
  left = record {
    word = back (kept-but w' (aside d m mem.words s sh.word) (record {
      kinds = refl;
      owners = refl;
      blocked = refl;
      key_table = refl;
      page = λ q o z. record {
        words = λ i. refl;
        tdr = λ is i. refl;
        owned = λ h. record {
          stands = λ n. n;
          level = refl;
          number = refl;
          entries = λ l x. refl;
          vp = λ i. refl;
          stream = λ i. refl;
          control = λ is n. tdcs-but refl (λ l x. refl) t d (r ∷ []) two z
              (λ u i. rw (elsewhere w t v (w.pages.owners q) (i - 6) None (w.tds.vps (w.pages.owners q)) its.owner u (la.tds.vps (w.pages.owners q) (record { kind = la.pages.owner q h; life = n }))) refl);
        };
      };
    })) after.words (λ q. refl) (λ q. refl) (λ k. refl) (λ q i n. rw n refl) (λ i i_in. subst (λ (o : Option ℕ). IsAs o (after.words (place.Word d i))) (sym (there i)) (tdcs-word i i_in));
    hasher = sh.hasher;
  }
