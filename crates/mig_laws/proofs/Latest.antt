-- The last of a page's bundles that were imported is the last of them in the order in which they were made.
use Rattle.std.proofs.Common.{◌≡◌, ◌⊎◌, inl, inr, refl, sym, ◌∙◌, ap, subst, ℕ, ◌+◌, ◌<◌, ◌≤◌, List, ◌∷◌, ◌++◌, length, Some, Bool, true, false, ◌==◌, ◌&&◌, nat_lt, get_or, arith}
use Rattle.std.specs.List.{All, count_by}
use Rattle.std.proofs.lemmas.Bool.{eqb-true, eq-eqb, and_parts, and_left, and_right, lt-ltb, eqb-false}
use Rattle.std.proofs.lemmas.List.{get_or-set_same, get_or-set_other}
use Rattle.std.proofs.lemmas.List.Elements.{All-cons, All-append}
use Rattle.flat_core.specs.World.{Made}
use Rattle.flat_core.proofs.Tests.{by_test}
use Rattle.mig_laws.specs.Source.{has_gpa_page, is_page_at, page_words}
use Rattle.mig_laws.specs.WellMade.{is_of, is_on, AreWellMade}
use Rattle.mig_laws.specs.Imported.{is_imported, last_imported, one_more, counted_on, AreImported, IsNext, ImportsStayInOrder, LatestIsLast, ImportsKeepLast}
use Rattle.mig_laws.proofs.Places.{by_places, at_place, in_front, in_back, count-append, count_yes, last-append, last_none, last_same}
use Rattle.mig_laws.proofs.Joined.{not_less, session_of, on_of, imported_of, next_counter, next_is, own_place, lower, above, behind_own}

module _ (s : ℕ) (counts : List ℕ) (epoch : ℕ) (before after : List Made) (b : Made) (made : AreWellMade (before ++ b ∷ after)) (next : IsNext s counts b) where
  abbrev k : ℕ
  k = b.header.stream

  abbrev more : List ℕ
  more = one_more k counts

  on : counted_on b ≡ k
  on = (own_place s counts epoch before after b made next).stream

  here : get_or more k 0 ≡ get_or counts k 0 + 1
  here = get_or-set_same counts k (get_or counts k 0 + 1) 0 (subst (λ (j : ℕ). j < length counts) on next.stream)

  elsewhere : (j : ℕ) → (j == k) ≡ false → get_or more j 0 ≡ get_or counts j 0
  elsewhere j off = get_or-set_other counts k j (get_or counts k 0 + 1) 0 (eqb-false j k off)

  -- one that isn't the next of b's stream is imported by then exactly where it was before
  same_taken : (x : Made) → (is_of s x ≡ true → x.header.stream ≡ k → (x.header.counter < get_or counts k 0) ⊎ (get_or counts k 0 < x.header.counter)) → is_imported s more x ≡ is_imported s counts x
  same_taken x h = by_test (is_of s x)
      (λ e. by_test (x.header.stream == k)
      (λ y. let on = eqb-true x.header.stream k y in at on (h e on))
      (λ y. ap (λ (z : ℕ). is_of s x && nat_lt x.header.counter z) (elsewhere x.header.stream y)))
      (λ e. rw e refl)
    where
      at : x.header.stream ≡ k → (x.header.counter < get_or counts k 0) ⊎ (get_or counts k 0 < x.header.counter) → is_imported s more x ≡ is_imported s counts x
      at on which = ap (λ (z : Bool). is_of s x && z)
          (subst (λ (z : ℕ). nat_lt x.header.counter (get_or more z 0) ≡ nat_lt x.header.counter (get_or counts z 0)) (sym on)
          (ap (nat_lt x.header.counter) here ∙ by which))
        where
          by : (x.header.counter < get_or counts k 0) ⊎ (get_or counts k 0 < x.header.counter) → nat_lt x.header.counter (get_or counts k 0 + 1) ≡ nat_lt x.header.counter (get_or counts k 0)
          by (inl m) = lt-ltb _ _ (omega (arith, m)) ∙ sym (lt-ltb _ _ m)
          by (inr m) = not_less _ _ (omega (arith, m)) ∙ sym (not_less _ _ (omega (arith, m)))

  pub same_before : (front back : List Made) (x : Made) → before ≡ front ++ x ∷ back → is_imported s more x ≡ is_imported s counts x
  same_before front back x is = same_taken x (λ e on. inl (
      let low = lower s counts epoch before after b made next front back x is e in
      let low' : x.header.counter < count_by (is_on s k) before = subst (λ (z : ℕ). x.header.counter < count_by (is_on s z) before) on low in
      omega (arith, low', next_is s counts epoch before after b made next)))

  pub same_behind : (front back : List Made) (x : Made) → after ≡ front ++ x ∷ back → is_imported s more x ≡ is_imported s counts x
  same_behind front back x is = same_taken x (λ e on. inr (
      omega (arith, above s counts epoch before after b made next front back x is e on, next_is s counts epoch before after b made next)))

  now_taken : is_imported s more b ≡ true
  now_taken = imported_of s more b next.of_session (let same = next_counter s counts epoch before after b made next in omega (arith, here, same))

  abbrev WasInTime : Made → Type 0
  WasInTime x = is_imported s counts x ≡ true → x.header.epoch ≤ epoch

  abbrev IsInTime : ℕ → Made → Type 0
  IsInTime later x = is_imported s more x ≡ true → x.header.epoch ≤ later

  abbrev IsAlike : ℕ → Made → Type 0
  IsAlike n x = (is_imported s more x && is_page_at s n x) ≡ (is_imported s counts x && is_page_at s n x)

  -- so many were made still, and none is too late
  module _ (have : AreImported s counts epoch (before ++ b ∷ after)) where
    pub in_order : (later : ℕ) → epoch ≤ later → b.header.epoch ≤ later → AreImported s more later (before ++ b ∷ after)
    in_order later le own = record {
      within = λ j. by_test (j == k)
          (λ y. subst (λ (z : ℕ). get_or more z 0 ≤ count_by (is_on s z) (before ++ b ∷ after)) (sym (eqb-true j k y))
          (omega (arith, here, next_is s counts epoch before after b made next, count-append (is_on s k) before (b ∷ after), count_yes (is_on s k) b after (on_of s b next.of_session))))
          (λ y. omega (arith, elsewhere j y, have.within j));
      epochs = All-append (IsInTime later) before (b ∷ after)
          (by_places (IsInTime later) before (λ front back x is. in_time x (same_before front back x is)
          (at_place WasInTime front back x (subst (All WasInTime) is (in_front WasInTime before (b ∷ after) have.epochs)))))
          (All-cons (IsInTime later) b after (λ e. own)
          (by_places (IsInTime later) after (λ front back x is. in_time x (same_behind front back x is)
          (at_place WasInTime (b ∷ front) back x (subst (λ (z : List Made). All WasInTime (b ∷ z)) is (in_back WasInTime before (b ∷ after) have.epochs))))));
    }
      where
        in_time : (x : Made) → is_imported s more x ≡ is_imported s counts x → WasInTime x → IsInTime later x
        in_time x same was e = omega (arith, was (sym same ∙ e), le)

    module _ (page : b.header.kind ≡ 3) (now : b.header.epoch ≡ epoch) where
      -- none of its pages that was made after it was imported
      none_behind : (n : ℕ) → has_gpa_page b.header n ≡ true → (front back : List Made) (x : Made) → after ≡ front ++ x ∷ back → (is_imported s more x && is_page_at s n x) ≡ false
      none_behind n has front back x is = by_test (is_imported s counts x)
          (λ t. by_test (is_page_at s n x)
          (λ g. absurd (
          let of = (and_parts (is_of s x) _ t).0 in
          let parts = and_parts (x.header.kind == 3) _ g in
          let there : has_gpa_page x.header n ≡ true = (and_parts (x.header.session == s) _ parts.1).1 in
          let same : b.header.session ≡ x.header.session = session_of s b next.of_session ∙ sym (session_of s x of) in
          let at : is_page_at x.header.session n b ≡ true = rw (has, eq-eqb b.header.kind 3 page, eq-eqb _ _ same) refl in
          let up = (behind_own s counts epoch before after b made next front back x is of).page (eqb-true x.header.kind 3 parts.0) n there at in
          let low = at_place WasInTime (b ∷ front) back x (subst (λ (z : List Made). All WasInTime (b ∷ z)) is (in_back WasInTime before (b ∷ after) have.epochs)) t in
          omega (arith, up, low, now)))
          (λ g. and_right (is_imported s more x) _ g))
          (λ t. and_left (is_imported s more x) _ (same_behind front back x is ∙ t))

      own_last : (n : ℕ) → has_gpa_page b.header n ≡ true → last_imported s more n (before ++ b ∷ after) ≡ Some (page_words n b)
      own_last n has =
          let none = last_none n (λ x. is_imported s more x && is_page_at s n x) after (by_places (λ x. (is_imported s more x && is_page_at s n x) ≡ false) after (none_behind n has)) in
          let at : is_page_at s n b ≡ true = rw (has, eq-eqb b.header.kind 3 page, eq-eqb b.header.session s (session_of s b next.of_session)) refl in
          last-append n (λ x. is_imported s more x && is_page_at s n x) before (b ∷ after) ∙ rw (now_taken, at, none) refl

      other_last : (n : ℕ) → has_gpa_page b.header n ≡ false → last_imported s more n (before ++ b ∷ after) ≡ last_imported s counts n (before ++ b ∷ after)
      other_last n off =
          last-append n (λ x. is_imported s more x && is_page_at s n x) before (b ∷ after)
          ∙ (rw (
            last_same n (λ x. is_imported s more x && is_page_at s n x) (λ x. is_imported s counts x && is_page_at s n x) before
                (by_places (IsAlike n) before (λ front back x is. ap (λ (z : Bool). z && is_page_at s n x) (same_before front back x is))),
            last_same n (λ x. is_imported s more x && is_page_at s n x) (λ x. is_imported s counts x && is_page_at s n x) after
                (by_places (IsAlike n) after (λ front back x is. ap (λ (z : Bool). z && is_page_at s n x) (same_behind front back x is))),
            neither (is_imported s more b),
            neither (is_imported s counts b),
          ) refl
          ∙ sym (last-append n (λ x. is_imported s counts x && is_page_at s n x) before (b ∷ after)))
        where
          neither : (a : Bool) → (a && is_page_at s n b) ≡ false
          neither a = and_right a _ (and_right (b.header.kind == 3) _ (and_right (b.header.session == s) _ off))

      pub latest : LatestIsLast s counts (before ++ b ∷ after) b
      latest = record {
        own = λ n has. ap (λ (j : ℕ). last_imported s (one_more j counts) n (before ++ b ∷ after)) on ∙ own_last n has;
        others = λ n off. ap (λ (j : ℕ). last_imported s (one_more j counts) n (before ++ b ∷ after)) on ∙ other_last n off;
      }

pub imports-stay-in-order : ImportsStayInOrder
imports-stay-in-order s counts epoch later before after b made have next le own =
    subst (λ (k : ℕ). AreImported s (one_more k counts) later (before ++ b ∷ after)) (sym (own_place s counts epoch before after b made next).stream)
    (in_order s counts epoch before after b made next have later le own)

pub imports-keep-last : ImportsKeepLast
imports-keep-last s counts epoch before after b made have fits = latest s counts epoch before after b made fits.next have fits.page fits.now
