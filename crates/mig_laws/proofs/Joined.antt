-- What is known of a bundle by its place among those that were made; and that a token brings all before it.
use Rattle.std.proofs.Common.{◌≡◌, refl, sym, ◌∙◌, ap, subst, ℕ, zero, suc, ◌+◌, ◌<◌, ◌≤◌, List, [], ◌∷◌, ◌++◌, length, Bool, true, false, cond, ◌==◌, ◌&&◌, nat_lt, get_or, append_assoc, arith}
use Rattle.std.specs.List.{All, count_by}
use Rattle.std.proofs.lemmas.Bool.{eqb-true, and_parts, and_left, and_right, ltb-true, ltb-false, lt-ltb, eqb-false, ne_eqb}
use Rattle.std.proofs.lemmas.List.Elements.{All-cons}
use Rattle.std.proofs.lemmas.List.Sums.{sum_by-cons}
use Rattle.flat_core.specs.World.{Made}
use Rattle.flat_core.specs.Locks.{sum_below}
use Rattle.flat_core.proofs.Tests.{by_test, same_self}
use Rattle.mig_laws.specs.Ivs.{is_forward}
use Rattle.mig_laws.specs.Source.{is_page_at, last_payload}
use Rattle.mig_laws.specs.WellMade.{is_of, is_on, is_token, IsBehind, AreWellMade}
use Rattle.mig_laws.specs.Imported.{is_imported, last_imported, counted_on, AreImported, IsNext, TokenFits, AreAllBefore, TokenBringsAll}
use Rattle.mig_laws.proofs.Places.{by_places, at_place, count-append, count_yes, count_no, count_none, count_less, IsFirst, none, first, first_of, last-append, last_none, last_same, sum_places}

pub not_less : (a b : ℕ) → b ≤ a → nat_lt a b ≡ false
not_less a b h = by_test (nat_lt a b) (λ z. absurd (let m = ltb-true a b z in omega (arith, m, h))) (λ z. z)

-- a session's bundle
pub forward_of : (s : ℕ) (b : Made) → is_of s b ≡ true → is_forward b ≡ true
forward_of s b e = (and_parts (is_forward b) (b.header.session == s) e).0

pub session_of : (s : ℕ) (b : Made) → is_of s b ≡ true → b.header.session ≡ s
session_of s b e = eqb-true b.header.session s (and_parts (is_forward b) (b.header.session == s) e).1

pub on_of : (s : ℕ) (b : Made) → is_of s b ≡ true → is_on s b.header.stream b ≡ true
on_of s b e = rw (e, same_self b.header.stream) refl

-- a page's bundle is one of its session
pub page_of_session : (s n : ℕ) (b : Made) → is_page_at s n b ≡ true → is_of s b ≡ true
page_of_session s n b e =
    let parts = and_parts (b.header.kind == 3) _ e in
    let kind : b.header.kind ≡ 3 = eqb-true b.header.kind 3 parts.0 in
    let other : (b.header.kind == 6) ≡ false = ap (λ (k : ℕ). k == 6) kind in
    rw (other, (and_parts (b.header.session == s) _ parts.1).0) refl

-- what its header says, where it stands
pub record IsPlaced (s : ℕ) (before : List Made) (b : Made) : Type 0 where
  pub stream : counted_on b ≡ b.header.stream
  pub counter : b.header.counter ≡ count_by (is_on s b.header.stream) before
  pub total : is_token b ≡ true → b.header.total ≡ count_by (is_of s) before
  pub behind : All (λ a. is_of s a ≡ true → IsBehind b a) before

pub placed : (s : ℕ) (bundles before after : List Made) (b : Made) → AreWellMade bundles → bundles ≡ before ++ b ∷ after → is_of s b ≡ true → IsPlaced s before b
placed s bundles before after b made is e =
    let c = made before after b is (forward_of s b e) in
    let same = session_of s b e in
    record {
      stream = by_test (b.header.kind == 3) (λ y. rw y refl) (λ y. rw y (sym (c.stream (eqb-false b.header.kind 3 y))));
      counter = c.counter ∙ ap (λ (z : ℕ). count_by (is_on z b.header.stream) before) same;
      total = λ k. c.total k ∙ ap (λ (z : ℕ). count_by (is_of z) before) same;
      behind = subst (λ (z : ℕ). All (λ a. is_of z a ≡ true → IsBehind b a) before) same c.behind;
    }

-- imported by counters
pub imported_of : (s : ℕ) (counts : List ℕ) (x : Made) → is_of s x ≡ true → x.header.counter < get_or counts x.header.stream 0 → is_imported s counts x ≡ true
imported_of s counts x e m = rw (e, lt-ltb x.header.counter (get_or counts x.header.stream 0) m) refl

pub not_imported : (s : ℕ) (counts : List ℕ) (x : Made) → (is_of s x ≡ true → get_or counts x.header.stream 0 ≤ x.header.counter) → is_imported s counts x ≡ false
not_imported s counts x h = by_test (is_of s x)
    (λ e. and_right (is_of s x) _ (not_less x.header.counter (get_or counts x.header.stream 0) (h e)))
    (λ e. and_left (is_of s x) _ e)

-- a bundle of a session between those made before and after it, where the destination imports the next of its stream
module _ (s : ℕ) (counts : List ℕ) (epoch : ℕ) (before after : List Made) (b : Made) (made : AreWellMade (before ++ b ∷ after)) (next : IsNext s counts b) where
  abbrev pub already : ℕ → ℕ
  already k = count_by (is_on s k) before

  pub own_place : IsPlaced s before b
  own_place = placed s (before ++ b ∷ after) before after b made refl next.of_session

  pub next_counter : b.header.counter ≡ get_or counts b.header.stream 0
  next_counter = next.counter ∙ ap (λ (k : ℕ). get_or counts k 0) own_place.stream

  pub next_is : get_or counts b.header.stream 0 ≡ already b.header.stream
  next_is = sym next_counter ∙ own_place.counter

  -- an earlier one is counted by those before b
  pub lower : (front back : List Made) (x : Made) → before ≡ front ++ x ∷ back → is_of s x ≡ true → x.header.counter < already x.header.stream
  lower front back x is e =
      let p = placed s (before ++ b ∷ after) front (back ++ b ∷ after) x made (ap (λ (z : List Made). z ++ b ∷ after) is ∙ append_assoc front (x ∷ back) (b ∷ after)) e in
      let all = ap (count_by (is_on s x.header.stream)) is ∙ count-append (is_on s x.header.stream) front (x ∷ back) in
      omega (arith, p.counter, all, count_yes (is_on s x.header.stream) x back (on_of s x e))

  -- a later one counts those
  pub later_place : (front back : List Made) (x : Made) → after ≡ front ++ x ∷ back → is_of s x ≡ true → IsPlaced s (before ++ b ∷ front) x
  later_place front back x is e =
      placed s (before ++ b ∷ after) (before ++ b ∷ front) back x made (ap (λ (z : List Made). before ++ b ∷ z) is ∙ sym (append_assoc before (b ∷ front) (x ∷ back))) e

  pub higher : (front back : List Made) (x : Made) → after ≡ front ++ x ∷ back → is_of s x ≡ true → already x.header.stream ≤ x.header.counter
  higher front back x is e =
      omega (arith, (later_place front back x is e).counter, count-append (is_on s x.header.stream) before (b ∷ front))

  -- and b too, where it is on b's stream
  pub above : (front back : List Made) (x : Made) → after ≡ front ++ x ∷ back → is_of s x ≡ true → x.header.stream ≡ b.header.stream → already b.header.stream < x.header.counter
  above front back x is e same =
      let counter : x.header.counter ≡ count_by (is_on s b.header.stream) (before ++ b ∷ front)
      = (later_place front back x is e).counter ∙ ap (λ (z : ℕ). count_by (is_on s z) (before ++ b ∷ front)) same in
      omega (arith, counter, count-append (is_on s b.header.stream) before (b ∷ front), count_yes (is_on s b.header.stream) b front (on_of s b next.of_session))

  pub behind_own : (front back : List Made) (x : Made) → after ≡ front ++ x ∷ back → is_of s x ≡ true → IsBehind x b
  behind_own front back x is e = at_place (λ a. is_of s a ≡ true → IsBehind x a) before front b (later_place front back x is e).behind next.of_session

-- sums over streams
sum_less : (f g : ℕ → ℕ) (n : ℕ) → ((k : ℕ) → f k ≤ g k) → sum_below f n ≤ sum_below g n
sum_less f g zero h = omega arith
sum_less f g (suc n) h = omega (arith, h n, sum_less f g n h)

sum_tight : (f g : ℕ → ℕ) (n : ℕ) → ((k : ℕ) → f k ≤ g k) → sum_below g n ≤ sum_below f n → (k : ℕ) → k < n → g k ≤ f k
sum_tight f g zero h le k m = absurd (omega (arith, m))
sum_tight f g (suc n) h le k m = by_test (k == n)
    (λ y. subst (λ (z : ℕ). g z ≤ f z) (sym (eqb-true k n y)) (omega (arith, le, sum_less f g n h)))
    (λ y. sum_tight f g n h (omega (arith, le, h n)) k (below (eqb-false k n y)))
  where
    below : (k ≡ n → ⊥) → k < n
    below off = grind (arith, off, m)

-- where each of a session's counts on one stream at most
count_split : (p q r : Made → Bool) (xs : List Made) → ((x : Made) → cond (p x) 1 0 ≡ cond (q x) 1 0 + cond (r x) 1 0) → count_by p xs ≡ count_by q xs + count_by r xs
count_split p q r [] h = omega arith
count_split p q r (x ∷ xs) h =
    omega (arith, h x, count_split p q r xs h, sum_by-cons (λ y. cond (p y) 1 0) x xs, sum_by-cons (λ y. cond (q y) 1 0) x xs, sum_by-cons (λ y. cond (r y) 1 0) x xs)

one_more_stream : (of : Bool) (k n : ℕ) → cond (of && nat_lt k (suc n)) 1 0 ≡ cond (of && k == n) 1 0 + cond (of && nat_lt k n) 1 0
one_more_stream false k n = omega arith
one_more_stream true k n = by_test (k == n)
    (λ y. let same = eqb-true k n y in rw (y, lt-ltb k (suc n) (omega (arith, same)), not_less k n (omega (arith, same))) refl)
    (λ y. rw y (by_test (nat_lt k n)
    (λ z. let m = ltb-true k n z in rw (z, lt-ltb k (suc n) (omega (arith, m))) refl)
    (λ z. let off = eqb-false k n y in let m = ltb-false k n z in rw (z, not_less k (suc n) (grind (arith, off, m))) refl)))

pub on_streams : (s n : ℕ) (xs : List Made) → sum_below (λ k. count_by (is_on s k) xs) n ≡ count_by (λ x. is_of s x && nat_lt x.header.stream n) xs
on_streams s zero xs = sym (count_none (λ x. is_of s x && nat_lt x.header.stream 0) xs
    (by_places (λ x. (is_of s x && nat_lt x.header.stream 0) ≡ false) xs (λ front back x e. and_right (is_of s x) _ (not_less x.header.stream 0 (omega arith)))))
on_streams s (suc n) xs =
    omega (
      arith,
      on_streams s n xs,
      count_split (λ x. is_of s x && nat_lt x.header.stream (suc n)) (is_on s n) (λ x. is_of s x && nat_lt x.header.stream n) xs
          (λ x. one_more_stream (is_of s x) x.header.stream n),
    )

-- where as many pass p as pass q, and each that passes p passes q, each that passes q passes p
all_pass : (p q : Made → Bool) (xs : List Made) → ((x : Made) → p x ≡ true → q x ≡ true) → count_by q xs ≤ count_by p xs → (front back : List Made) (x : Made) → xs ≡ front ++ x ∷ back → q x ≡ true → p x ≡ true
all_pass p q xs h le front back x is passes = by_test (p x) (λ e. e) (λ e. absurd (
    let ps = ap (count_by p) is ∙ count-append p front (x ∷ back) in
    let qs = ap (count_by q) is ∙ count-append q front (x ∷ back) in
    omega (arith, le, ps, qs, count_no p x back e, count_yes q x back passes, count_less p q front h, count_less p q back h)))

module _ (s : ℕ) (counts : List ℕ) (epoch : ℕ) (before after : List Made) (b : Made) (made : AreWellMade (before ++ b ∷ after))
    (have : AreImported s counts epoch (before ++ b ∷ after)) (fits : TokenFits s counts epoch b) where
  abbrev so_far : ℕ → ℕ
  so_far k = already s counts epoch before after b made fits.next k

  own : IsPlaced s before b
  own = own_place s counts epoch before after b made fits.next

  -- the first one of a stream that was made after the token is of the token's epoch at least, so it wasn't imported
  none_over : (k : ℕ) → (k == b.header.stream) ≡ false → IsFirst (is_on s k) after → get_or counts k 0 ≤ so_far k
  none_over k off (none z) =
      let apart : is_on s k b ≡ false = and_right (is_of s b) (b.header.stream == k) (turned b.header.stream k off) in
      omega (arith, have.within k, count-append (is_on s k) before (b ∷ after), count_no (is_on s k) b after apart, z)
    where
      turned : (a c : ℕ) → (c == a) ≡ false → (a == c) ≡ false
      turned a c y = ne_eqb a c (λ same. eqb-false c a y (sym same))
  none_over k off (first front back x is passes z) = by_test (nat_lt (so_far k) (get_or counts k 0))
      (λ y. absurd (
      let parts = and_parts (is_of s x) (x.header.stream == k) passes in
      let on : x.header.stream ≡ k = eqb-true x.header.stream k parts.1 in
      let place = later_place s counts epoch before after b made fits.next front back x is parts.0 in
      let apart : is_on s k b ≡ false = and_right (is_of s b) (b.header.stream == k) (ne_eqb b.header.stream k (λ same. eqb-false k b.header.stream off (sym same))) in
      let counter : x.header.counter ≡ count_by (is_on s k) (before ++ b ∷ front) = place.counter ∙ ap (λ (z : ℕ). count_by (is_on s z) (before ++ b ∷ front)) on in
      let more = ltb-true (so_far k) (get_or counts k 0) y in
      let less : x.header.counter < get_or counts k 0 = omega (arith, counter, count-append (is_on s k) before (b ∷ front), count_no (is_on s k) b front apart, z, more) in
      let taken = imported_of s counts x parts.0 (subst (λ (z : ℕ). x.header.counter < get_or counts z 0) (sym on) less) in
      let here : before ++ b ∷ after ≡ (before ++ b ∷ front) ++ x ∷ back = ap (λ (z : List Made). before ++ b ∷ z) is ∙ sym (append_assoc before (b ∷ front) (x ∷ back)) in
      let old = at_place (λ x. is_imported s counts x ≡ true → x.header.epoch ≤ epoch) (before ++ b ∷ front) back x
      (subst (λ (z : List Made). All (λ x. is_imported s counts x ≡ true → x.header.epoch ≤ epoch) z) here have.epochs) taken in
      let new = (behind_own s counts epoch before after b made fits.next front back x is parts.0).epoch in
      omega (arith, old, new, fits.later)))
      (λ y. let m = ltb-false (so_far k) (get_or counts k 0) y in grind (arith, m))

  few : (k : ℕ) → get_or counts k 0 ≤ so_far k
  few k = by_test (k == b.header.stream)
      (λ y. let same = next_is s counts epoch before after b made fits.next in
      subst (λ (z : ℕ). get_or counts z 0 ≤ so_far z) (sym (eqb-true k b.header.stream y)) (omega (arith, same)))
      (λ y. none_over k y (first_of (is_on s k) after))

  -- all of them are as many as the token says
  total_is : sum_below (λ k. get_or counts k 0) (length counts) ≡ count_by (is_of s) before
  total_is = sym (sum_places (λ x. x) counts) ∙ (sym fits.total ∙ own.total fits.token)

  all_on : sum_below so_far (length counts) ≤ count_by (is_of s) before
  all_on = rw (on_streams s (length counts) before) (count_less (λ x. is_of s x && nat_lt x.header.stream (length counts)) (is_of s) before (λ x e. (and_parts (is_of s x) _ e).0))

  as_many : (k : ℕ) → k < length counts → so_far k ≤ get_or counts k 0
  as_many = sum_tight (λ k. get_or counts k 0) so_far (length counts) few (omega (arith, all_on, total_is))

  in_streams : (front back : List Made) (x : Made) → before ≡ front ++ x ∷ back → is_of s x ≡ true → x.header.stream < length counts
  in_streams front back x is e =
      let enough = sum_less (λ k. get_or counts k 0) so_far (length counts) few in
      let some = all_pass (λ x. is_of s x && nat_lt x.header.stream (length counts)) (is_of s) before (λ x e. (and_parts (is_of s x) _ e).0)
      (omega (arith, enough, total_is, on_streams s (length counts) before)) front back x is e in
      ltb-true x.header.stream (length counts) (and_parts (is_of s x) _ some).1

  brought : (front back : List Made) (x : Made) → before ≡ front ++ x ∷ back → is_of s x ≡ true → is_imported s counts x ≡ true
  brought front back x is e =
      imported_of s counts x e
      (omega (arith, lower s counts epoch before after b made fits.next front back x is e, as_many x.header.stream (in_streams front back x is e)))

  not_yet : All (λ x. is_imported s counts x ≡ false) (b ∷ after)
  not_yet = All-cons (λ x. is_imported s counts x ≡ false) b after
      (not_imported s counts b (λ e. let same = next_counter s counts epoch before after b made fits.next in omega (arith, same)))
      (by_places (λ x. is_imported s counts x ≡ false) after (λ front back x is. not_imported s counts x (λ e.
      omega (arith, higher s counts epoch before after b made fits.next front back x is e, few x.header.stream))))

  last_pages : (n : ℕ) → last_imported s counts n (before ++ b ∷ after) ≡ last_payload s n before
  last_pages n =
      last-append n (λ x. is_imported s counts x && is_page_at s n x) before (b ∷ after)
      ∙ rw (
        last_same n (λ x. is_imported s counts x && is_page_at s n x) (is_page_at s n) before
            (by_places (λ x. (is_imported s counts x && is_page_at s n x) ≡ is_page_at s n x) before (λ front back x is. by_test (is_page_at s n x)
            (λ y. rw (y, brought front back x is (page_of_session s n x y)) refl)
            (λ y. and_right (is_imported s counts x) _ y ∙ sym y))),
        last_none n (λ x. is_imported s counts x && is_page_at s n x) (b ∷ after)
            (by_places (λ x. (is_imported s counts x && is_page_at s n x) ≡ false) (b ∷ after) (λ front back x is. and_left (is_imported s counts x) _
            (at_place (λ x. is_imported s counts x ≡ false) front back x (subst (All (λ x. is_imported s counts x ≡ false)) is not_yet)))),
      ) refl

  pub all_before : AreAllBefore s counts before (b ∷ after)
  all_before = record {
    imported = by_places (λ x. is_of s x ≡ true → is_imported s counts x ≡ true) before brought;
    none_later = not_yet;
    pages = last_pages;
  }

pub token-brings-all : TokenBringsAll
token-brings-all s counts epoch before after b made have fits = all_before s counts epoch before after b made have fits
