-- The words of TDCS that an extension of an RTMR stores show its act.
use Rattle.std.proofs.Common.{◌≡◌, ℕ, ◌+◌, ◌-◌, ◌*◌, ◌/◌, ◌%◌, ◌<◌, ◌≤◌, Bool, true, false, ◌==◌, ◌&&◌, nat_lt, List, Option, Some, refl, ap, sym, ◌∙◌, subst, arith}
use Rattle.std.specs.Prelude.{nat_le}
use Rattle.std.proofs.lemmas.Bool.{eq-eqb, eqb-true}
use Rattle.std.proofs.lemmas.Bool.Decides.{nat_tests}
use Rattle.td_words.specs.declared.machines.Machine.{Machine}
use Rattle.td_words.specs.Place.{WordPlace}
use Rattle.td_words.specs.Place as place
use Rattle.flat_core.specs.World.{World}
use Rattle.flat_core.specs.Processor.{LockId}
use Rattle.flat_core.specs.Effects.{set_rtmr}
use Rattle.flat_core.specs.Lawful.{IsAlive}
use Rattle.flat_core.specs.Event.{State}
use Rattle.flat_core.proofs.Tests.{by_test}
use Rattle.word_rules.specs.Lines.{in_lines}
use Rattle.word_rules.specs.Rules.{RtmrWord}
use Rattle.word_rules.specs.Spots.{or_unused, tdcs_classes}
use Rattle.word_rules.specs.Cells.{Shows, IsAs, td_lock_lines, tdcs_lines, lock_word}
use Rattle.lock_words.specs.LockWords.{put_word}
use Rattle.leaf_parts.proofs.Begun.{TwoControls}
use Rattle.leaf_parts.proofs.Stored.{tdcs-changed}
use Rattle.access_core.specs.RtmrTrees.{rtmr_at}

-- the line of an RTMR's word, and what it is
pub rtmr-line : (w : World) (locks : LockId → ℕ) (t n : ℕ) → n < 24 → in_lines (td_lock_lines locks t (tdcs_lines w t)) (16 + n) ≡ Some (w.hidden.rtmrs t n)
rtmr-line w locks t n few = by (16 + n) (omega arith) (omega (arith, few)) ∙ ap (λ (k : ℕ). Some (w.hidden.rtmrs t k)) (omega arith)
  where
    by : (i : ℕ) → 16 ≤ i → i < 40 → in_lines (td_lock_lines locks t (tdcs_lines w t)) i ≡ Some (w.hidden.rtmrs t (i - 16))
    by i low high =
        let a0 : (i == 0) ≡ false = grind (arith, nat_tests) in
        let a1 : (i == 1) ≡ false = grind (arith, nat_tests) in
        let a2 : (i == 2) ≡ false = grind (arith, nat_tests) in
        let a3 : (i == 3) ≡ false = grind (arith, nat_tests) in
        let a4 : (i == 4) ≡ false = grind (arith, nat_tests) in
        let a5 : (i == 5) ≡ false = grind (arith, nat_tests) in
        let a6 : (nat_le 6 i && nat_lt i 8) ≡ false = grind (arith, nat_tests) in
        let a8 : (i == 8) ≡ false = grind (arith, nat_tests) in
        let a9 : (i == 9) ≡ false = grind (arith, nat_tests) in
        let a10 : (i == 10) ≡ false = grind (arith, nat_tests) in
        let a11 : (i == 11) ≡ false = grind (arith, nat_tests) in
        let a12 : (i == 12) ≡ false = grind (arith, nat_tests) in
        let a13 : (i == 13) ≡ false = grind (arith, nat_tests) in
        let a14 : (i == 14) ≡ false = grind (arith, nat_tests) in
        let a15 : (i == 15) ≡ false = grind (arith, nat_tests) in
        let run : (nat_le 16 i && nat_lt i 40) ≡ true = grind (arith, nat_tests) in
        rw (a0, a1, a2, a3, a4, a5, a6, a8, a9, a10, a11, a12, a13, a14, a15, run) refl

pub rtmr-class : (current empty : ℕ → Bool) (n : ℕ) → n < 24 → or_unused (in_lines (tdcs_classes current empty) (16 + n)) ≡ RtmrWord
rtmr-class current empty n few = by (16 + n) (omega arith) (omega (arith, few))
  where
    by : (i : ℕ) → 16 ≤ i → i < 40 → or_unused (in_lines (tdcs_classes current empty) i) ≡ RtmrWord
    by i low high =
        let a0 : (nat_le 0 i && nat_lt i 4) ≡ false = grind (arith, nat_tests) in
        let a4 : (i == 4) ≡ false = grind (arith, nat_tests) in
        let a5 : (i == 5) ≡ false = grind (arith, nat_tests) in
        let a6 : (nat_le 6 i && nat_lt i 8) ≡ false = grind (arith, nat_tests) in
        let a8 : (i == 8) ≡ false = grind (arith, nat_tests) in
        let a9 : (i == 9) ≡ false = grind (arith, nat_tests) in
        let a10 : (nat_le 10 i && nat_lt i 16) ≡ false = grind (arith, nat_tests) in
        let run : (nat_le 16 i && nat_lt i 40) ≡ true = grind (arith, nat_tests) in
        rw (a0, a4, a5, a6, a8, a9, a10, run) refl

module _ (m : Machine) (words : WordPlace → ℕ) (slots : ℕ → Option (List ℕ)) (s : State) (sh : Shows m words slots s) (t : ℕ) (alive : IsAlive s.world.pages s.world.tds t) (z : TwoControls m s.world t) (i : ℕ) (few : i < 4) (ws : ℕ → ℕ) where
  abbrev d : ℕ
  d = z.tdcs

  abbrev w' : World
  w' = set_rtmr t i ws s.world

  abbrev locks : LockId → ℕ
  locks = lock_word s.lps s.lp_count

  abbrev put_at : (ℕ) → (WordPlace → ℕ) → WordPlace → ℕ
  put_at k x = put_word x (rtmr_at d i k) (ws k)

  abbrev after : WordPlace → ℕ
  after = put_at 5 (put_at 4 (put_at 3 (put_at 2 (put_at 1 (put_at 0 words)))))

  itself : (q : ℕ) → (q == q) ≡ true
  itself q = eq-eqb q q refl

  -- a word of that RTMR
  new-line : (k : ℕ) → k < 6 → in_lines (td_lock_lines locks t (tdcs_lines w' t)) (16 + (6 * i + k)) ≡ Some (ws k)
  new-line k small =
      let mine : ((6 * i + k) / 6 == i) ≡ true = eq-eqb ((6 * i + k) / 6) i (omega (arith, small)) in
      let number : (6 * i + k) % 6 ≡ k = omega (arith, small) in
      rtmr-line w' locks t (6 * i + k) (omega (arith, few, small)) ∙ ap Some (rw (itself t, mine, number) refl)

  hit : (j k x : ℕ) → k < 6 → (j == 16 + (6 * i + k)) ≡ true → x ≡ ws k → IsAs (in_lines (td_lock_lines locks t (tdcs_lines w' t)) j) x
  hit j k x small e is = subst (λ (o : Option ℕ). IsAs o x) (sym (ap (in_lines (td_lock_lines locks t (tdcs_lines w' t))) (eqb-true j (16 + (6 * i + k)) e) ∙ new-line k small)) is

  -- any other word
  old-line : (j : ℕ) → ((nat_le 16 j && nat_lt j 40) ≡ true → ((j - 16) / 6 == i) ≡ false) → in_lines (td_lock_lines locks t (tdcs_lines w' t)) j ≡ in_lines (td_lock_lines locks t (tdcs_lines s.world t)) j
  old-line j other = by_test (nat_le 16 j && nat_lt j 40)
      (λ y. (let o : ((j - 16) / 6 == i) ≡ false = other y in rw (itself t, o) refl))
      (λ y. rw y refl)

  word-here : (j : ℕ) → IsAs (in_lines (td_lock_lines locks t (tdcs_lines s.world t)) j) (words (place.Word d j)) → IsAs (in_lines (td_lock_lines locks t (tdcs_lines w' t)) j) (after (place.Word d j))
  word-here j was =
      by_test (j == 16 + (6 * i + 5)) (λ e. hit j 5 (after (place.Word d j)) (omega arith) e (rw (itself d, e) refl)) (λ n5.
      by_test (j == 16 + (6 * i + 4)) (λ e. hit j 4 (after (place.Word d j)) (omega arith) e (rw (itself d, n5, e) refl)) (λ n4.
      by_test (j == 16 + (6 * i + 3)) (λ e. hit j 3 (after (place.Word d j)) (omega arith) e (rw (itself d, n5, n4, e) refl)) (λ n3.
      by_test (j == 16 + (6 * i + 2)) (λ e. hit j 2 (after (place.Word d j)) (omega arith) e (rw (itself d, n5, n4, n3, e) refl)) (λ n2.
      by_test (j == 16 + (6 * i + 1)) (λ e. hit j 1 (after (place.Word d j)) (omega arith) e (rw (itself d, n5, n4, n3, n2, e) refl)) (λ n1.
      by_test (j == 16 + (6 * i + 0)) (λ e. hit j 0 (after (place.Word d j)) (omega arith) e (rw (itself d, n5, n4, n3, n2, n1, e) refl)) (λ n0.
      (let same : words (place.Word d j) ≡ after (place.Word d j) = rw (itself d, n5, n4, n3, n2, n1, n0) refl in
      let line = old-line j (λ y. grind (arith, nat_tests)) in
      subst (λ (x : ℕ). IsAs (in_lines (td_lock_lines locks t (tdcs_lines w' t)) j) x) same
      (subst (λ (o : Option ℕ). IsAs o (words (place.Word d j))) (sym line) was))))))))

  pub extended-shown : Shows m after slots (record s { world = w' })
  extended-shown = record {
    word = tdcs-changed m s words t d z.root sh.word alive.life z.list z.tdcs_page z.tdcs_in w' (λ u n j. rw n refl) after (λ r. refl) (λ r. refl) (λ k. refl) (λ r j o. rw o refl) word-here;
    hasher = sh.hasher;
  }
