-- How many bundles of each stream a destination has imported, and what one more changes.
use Rattle.std.proofs.Common.{◌≡◌, refl, sym, ◌∙◌, ap, subst, ℕ, zero, suc, ◌+◌, ◌<◌, List, [], ◌∷◌, ◌++◌, length, map, Bool, true, false, not, ◌==◌, ◌&&◌, get_or, arith}
use Rattle.std.specs.List.{All, list_any}
use Rattle.std.proofs.lemmas.Bool.{eqb-true, and_parts, and_right, not-true}
use Rattle.std.proofs.lemmas.List.{get_or-map}
use Rattle.std.proofs.lemmas.List.Elements.{All-cons, All-append}
use Rattle.std.proofs.lemmas.List.Folds.{list_any_at}
use Rattle.flat_core.specs.World.{Made, put}
use Rattle.flat_core.specs.Lawful.{all_differ}
use Rattle.flat_core.proofs.Tests.{by_test, same_self, put_here}
use Rattle.mig_laws.specs.Source.{is_page_at}
use Rattle.mig_laws.specs.WellMade.{is_of, AreWellMade}
use Rattle.mig_laws.specs.Imported.{is_imported, last_imported, one_more, counted_on, IsNext}
use Rattle.mig_laws.proofs.Places.{by_places, at_place, in_front, in_back, last-append, last_same}
use Rattle.mig_laws.proofs.Joined.{own_place}
use Rattle.mig_laws.proofs.Latest.{same_before, same_behind}

-- counters of a TD's streams, where one page's changes: none of them is that page, or one is one more
pub counts_same : (f g : ℕ → ℕ) (ps : List ℕ) → ((q : ℕ) → list_any (λ p. p == q) ps ≡ true → f q ≡ g q) → map f ps ≡ map g ps
counts_same f g [] h = refl
counts_same f g (p ∷ ps) h =
    let here : f p ≡ g p = h p (let self = same_self p in rw self refl) in
    let rest = counts_same f g ps (λ q e. h q (by_test (p == q) (λ y. rw y refl) (λ y. rw y e))) in
    λ j. here j ∷ rest j

pub counts_without : (f : ℕ → ℕ) (p v : ℕ) (ps : List ℕ) → list_any (λ q. q == p) ps ≡ false → map (put f p v) ps ≡ map f ps
counts_without f p v ps none = counts_same (put f p v) f ps (λ q h. by_test (q == p)
    (λ y. absurd (let no : true ≡ false = sym h ∙ subst (λ (z : ℕ). list_any (λ x. x == z) ps ≡ false) (sym (eqb-true q p y)) none in cc))
    (λ n. rw n refl))

pub counts_more : (f : ℕ → ℕ) (ps : List ℕ) (k : ℕ) → k < length ps → all_differ ps ≡ true → map (put f (get_or ps k 0) (f (get_or ps k 0) + 1)) ps ≡ one_more k (map f ps)
counts_more f [] k few d = absurd (omega (arith, few))
counts_more f (q ∷ qs) zero few d =
    let apart = and_parts (not (list_any (λ x. x == q) qs)) (all_differ qs) d in
    let rest = counts_without f q (f q + 1) qs (not-true _ apart.0) in
    let here = put_here f q (f q + 1) in
    λ j. here j ∷ rest j
counts_more f (q ∷ qs) (suc k) few d =
    let apart = and_parts (not (list_any (λ x. x == q) qs)) (all_differ qs) d in
    let p : ℕ = get_or qs k 0 in
    let among : list_any (λ x. x == p) qs ≡ true = list_any_at (λ x. x == p) qs k 0 (omega (arith, few)) (same_self p) in
    let other : (q == p) ≡ false = by_test (q == p)
    (λ y. absurd (let no : true ≡ false = sym among ∙ subst (λ (z : ℕ). list_any (λ x. x == z) qs ≡ false) (eqb-true q p y) (not-true _ apart.0) in cc))
    (λ y. y) in
    let here : put f p (f p + 1) q ≡ f q = rw other refl in
    let rest = counts_more f qs k (omega (arith, few)) apart.1 in
    λ j. here j ∷ rest j

-- the counter of one stream, and where nothing is counted yet
pub count_at : (f : ℕ → ℕ) (ps : List ℕ) (k : ℕ) → k < length ps → get_or (map f ps) k 0 ≡ f (get_or ps k 0)
count_at f ps k few = get_or-map f ps k 0 0 few

pub counts_zero : (f : ℕ → ℕ) (ps : List ℕ) → ((q : ℕ) → list_any (λ p. p == q) ps ≡ true → f q ≡ 0) → (k : ℕ) → get_or (map f ps) k 0 ≡ 0
counts_zero f [] h k = refl
counts_zero f (p ∷ ps) h zero = h p (let self = same_self p in rw self refl)
counts_zero f (p ∷ ps) h (suc k) = counts_zero f ps (λ q e. h q (by_test (p == q) (λ y. rw y refl) (λ y. rw y e))) k

-- One more is imported: what is said of each that was, and of this one, is said of each that is; and the last of each page is as
-- it was, where this one hasn't that page.
module _ (s : ℕ) (counts : List ℕ) (epoch : ℕ) (before after : List Made) (b : Made) (made : AreWellMade (before ++ b ∷ after)) (next : IsNext s counts b) where
  more_is : one_more b.header.stream counts ≡ one_more (counted_on b) counts
  more_is = ap (λ (k : ℕ). one_more k counts) (sym (own_place s counts epoch before after b made next).stream)

  abbrev now : List ℕ
  now = one_more (counted_on b) counts

  front_same : (front back : List Made) (x : Made) → before ≡ front ++ x ∷ back → is_imported s now x ≡ is_imported s counts x
  front_same front back x is = ap (λ (c : List ℕ). is_imported s c x) (sym more_is) ∙ same_before s counts epoch before after b made next front back x is

  pub back_same : (front back : List Made) (x : Made) → after ≡ front ++ x ∷ back → is_imported s now x ≡ is_imported s counts x
  back_same front back x is = ap (λ (c : List ℕ). is_imported s c x) (sym more_is) ∙ same_behind s counts epoch before after b made next front back x is

  pub still_front : All (λ x. is_of s x ≡ true → is_imported s counts x ≡ true) before → All (λ x. is_of s x ≡ true → is_imported s now x ≡ true) before
  still_front h = by_places (λ x. is_of s x ≡ true → is_imported s now x ≡ true) before (λ front back x is e. front_same front back x is
      ∙ at_place (λ x. is_of s x ≡ true → is_imported s counts x ≡ true) front back x (subst (All (λ x. is_of s x ≡ true → is_imported s counts x ≡ true)) is h) e)

  pub all_more : (P Q : Made → Type 0) → ((x : Made) → P x → Q x) → Q b → All (λ x. is_imported s counts x ≡ true → P x) (before ++ b ∷ after) → All (λ x. is_imported s now x ≡ true → Q x) (before ++ b ∷ after)
  all_more P Q weaker own h = All-append (Told now Q) before (b ∷ after)
      (by_places (Told now Q) before (λ front back x is e. weaker x (at_place (Told counts P) front back x
      (subst (All (Told counts P)) is (in_front (Told counts P) before (b ∷ after) h)) (sym (front_same front back x is) ∙ e))))
      (All-cons (Told now Q) b after (λ e. own)
      (by_places (Told now Q) after (λ front back x is e. weaker x (at_place (Told counts P) (b ∷ front) back x
      (subst (λ (z : List Made). All (Told counts P) (b ∷ z)) is (in_back (Told counts P) before (b ∷ after) h)) (sym (back_same front back x is) ∙ e)))))
    where
      Told : List ℕ → (Made → Type 0) → Made → Type 0
      Told c R x = is_imported s c x ≡ true → R x

  pub last_stays : (n : ℕ) → is_page_at s n b ≡ false → last_imported s now n (before ++ b ∷ after) ≡ last_imported s counts n (before ++ b ∷ after)
  last_stays n off =
      last-append n (λ x. is_imported s now x && is_page_at s n x) before (b ∷ after)
      ∙ (rw (
        last_same n (λ x. is_imported s now x && is_page_at s n x) (λ x. is_imported s counts x && is_page_at s n x) before
            (by_places (λ x. (is_imported s now x && is_page_at s n x) ≡ (is_imported s counts x && is_page_at s n x)) before
            (λ front back x is. ap (λ (z : Bool). z && is_page_at s n x) (front_same front back x is))),
        last_same n (λ x. is_imported s now x && is_page_at s n x) (λ x. is_imported s counts x && is_page_at s n x) after
            (by_places (λ x. (is_imported s now x && is_page_at s n x) ≡ (is_imported s counts x && is_page_at s n x)) after
            (λ front back x is. ap (λ (z : Bool). z && is_page_at s n x) (back_same front back x is))),
        and_right (is_imported s now b) _ off,
        and_right (is_imported s counts b) _ off,
      ) refl
      ∙ sym (last-append n (λ x. is_imported s counts x && is_page_at s n x) before (b ∷ after)))
