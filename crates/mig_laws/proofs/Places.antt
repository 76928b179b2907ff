-- Lists of bundles, place by place.
use Rattle.std.proofs.Common.{◌≡◌, refl, sym, ◌∙◌, ap, subst, ℕ, zero, suc, ◌+◌, ◌<◌, ◌≤◌, List, [], ◌∷◌, ◌++◌, length, Option, Some, None, Bool, true, false, cond, if◌then◌else◌, get_or, arith}
use Rattle.std.specs.List.{All, count_by, sum_by}
use Rattle.std.proofs.lemmas.List.Elements.{All-nil, All-cons, All-head, All-tail}
use Rattle.std.proofs.lemmas.List.Sums.{sum_by-cons, sum_by-append}
use Rattle.flat_core.specs.World.{Made}
use Rattle.flat_core.specs.Locks.{sum_below}
use Rattle.flat_core.proofs.Tests.{by_test}
use Rattle.mig_laws.specs.Source.{page_words, later_of, last_of}

-- what holds at each place of a list holds of each, and the other way round
pub by_places : (P : Made → Type 0) (xs : List Made) → ((front back : List Made) (x : Made) → xs ≡ front ++ x ∷ back → P x) → All P xs
by_places P [] h = All-nil P
by_places P (x ∷ xs) h = All-cons P x xs (h [] xs x refl) (by_places P xs (λ front back y e. h (x ∷ front) back y (ap (λ (z : List Made). x ∷ z) e)))

pub at_place : (P : Made → Type 0) (front back : List Made) (x : Made) → All P (front ++ x ∷ back) → P x
at_place P [] back x h = All-head P x back h
at_place P (y ∷ front) back x h = at_place P front back x (All-tail P y (front ++ x ∷ back) h)

pub in_front : (P : Made → Type 0) (xs ys : List Made) → All P (xs ++ ys) → All P xs
in_front P [] ys h = All-nil P
in_front P (x ∷ xs) ys h = All-cons P x xs (All-head P x (xs ++ ys) h) (in_front P xs ys (All-tail P x (xs ++ ys) h))

pub in_back : (P : Made → Type 0) (xs ys : List Made) → All P (xs ++ ys) → All P ys
in_back P [] ys h = h
in_back P (x ∷ xs) ys h = in_back P xs ys (All-tail P x (xs ++ ys) h)

-- a place of a list with one more: one of the list, or the last
pub data IsPlaceOf (bs before : List Made) (new b : Made) : Type 0 where
  within : (after : List Made) → bs ≡ before ++ b ∷ after → IsPlaceOf bs before new b
  last : before ≡ bs → b ≡ new → IsPlaceOf bs before new b

further : (c : Made) (bs before : List Made) (new b : Made) → IsPlaceOf bs before new b → IsPlaceOf (c ∷ bs) (c ∷ before) new b
further c bs before new b (within after e) = within after (ap (λ (z : List Made). c ∷ z) e)
further c bs before new b (last e f) = last (ap (λ (z : List Made). c ∷ z) e) f

pub place_of_more : (bs before after : List Made) (new b : Made) → bs ++ new ∷ [] ≡ before ++ b ∷ after → IsPlaceOf bs before new b
place_of_more [] [] after new b e = last refl (let same : new ≡ b = cc in sym same)
place_of_more [] (c ∷ []) after new b e = absurd (let no : [] ≡ b ∷ after = cc in cc)
place_of_more [] (c ∷ d ∷ before) after new b e = absurd (let no : [] ≡ d ∷ (before ++ b ∷ after) = cc in cc)
place_of_more (c ∷ bs) [] after new b e = within bs (let same : c ≡ b = cc in ap (λ (z : Made). z ∷ bs) same)
place_of_more (c ∷ bs) (d ∷ before) after new b e =
    let same : c ≡ d = cc in
    let rest : bs ++ new ∷ [] ≡ before ++ b ∷ after = cc in
    subst (λ (z : Made). IsPlaceOf (c ∷ bs) (z ∷ before) new b) same (further c bs before new b (place_of_more bs before after new b rest))

-- how many pass
pub count-append : (p : Made → Bool) (xs ys : List Made) → count_by p (xs ++ ys) ≡ count_by p xs + count_by p ys
count-append p xs ys = sum_by-append (λ x. cond (p x) 1 0) xs ys

pub count_yes : (p : Made → Bool) (x : Made) (xs : List Made) → p x ≡ true → count_by p (x ∷ xs) ≡ 1 + count_by p xs
count_yes p x xs e = sum_by-cons (λ y. cond (p y) 1 0) x xs ∙ rw e refl

pub count_no : (p : Made → Bool) (x : Made) (xs : List Made) → p x ≡ false → count_by p (x ∷ xs) ≡ count_by p xs
count_no p x xs e = sum_by-cons (λ y. cond (p y) 1 0) x xs ∙ rw e (omega arith)

pub count_none : (p : Made → Bool) (xs : List Made) → All (λ x. p x ≡ false) xs → count_by p xs ≡ 0
count_none p [] h = refl
count_none p (x ∷ xs) h = count_no p x xs (All-head (λ y. p y ≡ false) x xs h) ∙ count_none p xs (All-tail (λ y. p y ≡ false) x xs h)

pub count_same : (p q : Made → Bool) (xs : List Made) → All (λ x. p x ≡ q x) xs → count_by p xs ≡ count_by q xs
count_same p q [] h = refl
count_same p q (x ∷ xs) h =
    let here = ap {B = ℕ} (λ (b : Bool). cond b 1 0) (All-head (λ y. p y ≡ q y) x xs h) in
    omega (arith, here, sum_by-cons (λ y. cond (p y) 1 0) x xs, sum_by-cons (λ y. cond (q y) 1 0) x xs, count_same p q xs (All-tail (λ y. p y ≡ q y) x xs h))

pub count_less : (p q : Made → Bool) (xs : List Made) → ((x : Made) → p x ≡ true → q x ≡ true) → count_by p xs ≤ count_by q xs
count_less p q [] h = omega arith
count_less p q (x ∷ xs) h = by (p x) (q x) refl refl (h x) (count_less p q xs h)
  where
    by : (a b : Bool) → p x ≡ a → q x ≡ b → (p x ≡ true → q x ≡ true) → count_by p xs ≤ count_by q xs → count_by p (x ∷ xs) ≤ count_by q (x ∷ xs)
    by true true e f i le = omega (arith, le, count_yes p x xs e, count_yes q x xs f)
    by true false e f i le = absurd (let no : true ≡ false = sym (i e) ∙ f in cc)
    by false true e f i le = omega (arith, le, count_no p x xs e, count_yes q x xs f)
    by false false e f i le = omega (arith, le, count_no p x xs e, count_no q x xs f)

-- none passes, or there is a first one that does
pub data IsFirst (p : Made → Bool) (xs : List Made) : Type 0 where
  none : count_by p xs ≡ 0 → IsFirst p xs
  first : (front back : List Made) (x : Made) → xs ≡ front ++ x ∷ back → p x ≡ true → count_by p front ≡ 0 → IsFirst p xs

pub first_of : (p : Made → Bool) (xs : List Made) → IsFirst p xs
first_of p [] = none refl
first_of p (x ∷ xs) = by_test (p x) (λ e. first [] xs x refl e refl) (λ e. after e (first_of p xs))
  where
    after : p x ≡ false → IsFirst p xs → IsFirst p (x ∷ xs)
    after e (none z) = none (count_no p x xs e ∙ z)
    after e (first front back y is passes z) = first (x ∷ front) back y (ap (λ (r : List Made). x ∷ r) is) passes (count_no p x front e ∙ z)

-- the last of those that pass
later_later : (x y z : Option (List ℕ)) → later_of x (later_of y z) ≡ later_of (later_of x y) z
later_later x y None = refl
later_later x y (Some p) = refl

later_none : (x : Option (List ℕ)) → later_of None x ≡ x
later_none None = refl
later_none (Some p) = refl

pub last-append : (n : ℕ) (p : Made → Bool) (xs ys : List Made) → last_of n p (xs ++ ys) ≡ later_of (last_of n p xs) (last_of n p ys)
last-append n p [] ys = sym (later_none (last_of n p ys))
last-append n p (x ∷ xs) ys =
    let own : Option (List ℕ) = if p x then Some (page_words n x) else None in
    ap (later_of own) (last-append n p xs ys) ∙ later_later own (last_of n p xs) (last_of n p ys)

pub last_none : (n : ℕ) (p : Made → Bool) (xs : List Made) → All (λ x. p x ≡ false) xs → last_of n p xs ≡ None
last_none n p [] h = refl
last_none n p (x ∷ xs) h = rw (All-head (λ y. p y ≡ false) x xs h, last_none n p xs (All-tail (λ y. p y ≡ false) x xs h)) refl

pub last_same : (n : ℕ) (p q : Made → Bool) (xs : List Made) → All (λ x. p x ≡ q x) xs → last_of n p xs ≡ last_of n q xs
last_same n p q [] h = refl
last_same n p q (x ∷ xs) h = rw (All-head (λ y. p y ≡ q y) x xs h, last_same n p q xs (All-tail (λ y. p y ≡ q y) x xs h)) refl

-- with one more at the end
pub last_beside : (n : ℕ) (p : Made → Bool) (xs : List Made) (x : Made) → p x ≡ false → last_of n p (xs ++ x ∷ []) ≡ last_of n p xs
last_beside n p xs x e = last-append n p xs (x ∷ []) ∙ rw e refl

pub last_new : (n : ℕ) (p : Made → Bool) (xs : List Made) (x : Made) → p x ≡ true → last_of n p (xs ++ x ∷ []) ≡ Some (page_words n x)
last_new n p xs x e = last-append n p xs (x ∷ []) ∙ rw e refl

-- a sum over a list, by places
sum_front : (f : ℕ → ℕ) (n : ℕ) → sum_below f (suc n) ≡ f 0 + sum_below (λ k. f (suc k)) n
sum_front f zero = omega arith
sum_front f (suc n) = omega (arith, sum_front f n)

pub sum_places : (f : ℕ → ℕ) (xs : List ℕ) → sum_by f xs ≡ sum_below (λ k. f (get_or xs k 0)) (length xs)
sum_places f [] = refl
sum_places f (x ∷ xs) = omega (arith, sum_by-cons f x xs, sum_places f xs, sum_front (λ k. f (get_or (x ∷ xs) k 0)) (length xs))

pub same_below : (f g : ℕ → ℕ) (n : ℕ) → ((k : ℕ) → k < n → f k ≡ g k) → sum_below f n ≡ sum_below g n
same_below f g zero h = refl
same_below f g (suc n) h = omega (arith, h n (omega arith), same_below f g n (λ k m. h k (omega (arith, m))))
