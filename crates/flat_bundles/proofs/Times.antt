-- How often slots are named: by bundles, and by lines whose calls are still to act.
use Rattle.std.proofs.Common.{◌≡◌, ◌≢◌, ◌⊎◌, inl, inr, refl, sym, ◌∙◌, ap, subst, ℕ, zero, suc, ◌+◌, ◌<◌, ◌≤◌, List, [], ◌∷◌, ◌++◌, length, drop, Option, Some, None, true, false, ◌==◌, arith}
use Rattle.std.specs.List.{All, AllPairs, Contains, cons_option}
use Rattle.std.proofs.lemmas.Bool.{cases_lt, eqb-true, ne_eqb}
use Rattle.std.proofs.lemmas.List.Elements.{All-nil, All-cons, All-head, All-tail, filter_map-append}
use Rattle.std.proofs.lemmas.List.Kept.{AllPairs-cons}
use Rattle.td_words.specs.declared.calls.Call.{Call}
use Rattle.td_words.specs.Slots.{output_slot, all_calls, output_slots}
use Rattle.flat_core.specs.World.{Made}
use Rattle.flat_core.specs.Locks.{one_if}
use Rattle.flat_core.specs.Event.{calls_of}
use Rattle.flat_core.proofs.Tests.{by_test, same_self}
use Rattle.flat_bundles.specs.Bundles.{times, slots_of, slots_in, times_left}

pub times-append : (k : ℕ) (xs ys : List ℕ) → times k (xs ++ ys) ≡ times k xs + times k ys
times-append k [] ys = omega arith
times-append k (x ∷ xs) ys = omega (arith, times-append k xs ys)

-- what is in the list at all
pub is-in : (k : ℕ) (xs : List ℕ) → 1 ≤ times k xs → Contains xs k
is-in k [] h = absurd (omega (arith, h))
is-in k (x ∷ xs) h = by_test (x == k)
    (λ y. (0, omega arith, eqb-true x k y))
    (λ n. let some = rw n at h in let found = is-in k xs (omega (arith, some)) in (suc found.0, omega (arith, found.1), found.2))

-- where no two are the same, each is there once
abbrev AreApart : List ℕ → Type 0
AreApart slots = AllPairs (λ a b. a ≢ b) slots

first-apart : (x : ℕ) (xs : List ℕ) → AreApart (x ∷ xs) → All (λ n. x ≢ n) xs
first-apart x xs h = λ k d lt. h zero (suc k) d (omega arith) (omega (arith, lt))

rest-apart : (x : ℕ) (xs : List ℕ) → AreApart (x ∷ xs) → AreApart xs
rest-apart x xs h = λ i j d lt within. h (suc i) (suc j) d (omega (arith, lt)) (omega (arith, within))

never : (x : ℕ) (xs : List ℕ) → All (λ n. x ≢ n) xs → times x xs ≡ 0
never x [] h = refl
never x (y ∷ ys) h =
    let other : (y == x) ≡ false = ne_eqb y x (λ e. All-head (λ n. x ≢ n) y ys h (sym e)) in
    let rest = never x ys (All-tail (λ n. x ≢ n) y ys h) in
    rw other (omega (arith, rest))

pub once : (xs : List ℕ) → AreApart xs → (k : ℕ) → times k xs ≤ 1
once [] h k = omega arith
once (x ∷ xs) h k = by_test (x == k)
    (λ y. let none : times x xs ≡ 0 = never x xs (first-apart x xs h) in
    let here : times x xs ≡ times k xs = ap (λ (z : ℕ). times z xs) (eqb-true x k y) in
    rw y (omega (arith, none, here)))
    (λ n. let rest = once xs (rest-apart x xs h) k in rw n (omega (arith, rest)))

others : (k : ℕ) (ms : List Made) → times k (slots_of ms) ≡ 0 → All (λ n. k ≢ n.slot) ms
others k [] h = All-nil (λ n. k ≢ n.slot)
others k (m ∷ ms) h =
    All-cons (λ n. k ≢ n.slot) m ms (λ e. let same : (m.slot == k) ≡ true = ap (λ (z : ℕ). m.slot == z) e ∙ same_self m.slot in let some = rw same at h in omega (arith, some))
    (others k ms (omega (arith, h)))

pub once-apart : (ms : List Made) → ((k : ℕ) → times k (slots_of ms) ≤ 1) → AllPairs (λ m n. m.slot ≢ n.slot) ms
once-apart [] h = λ i j d lt within. absurd (omega (arith, within))
once-apart (m ∷ ms) h =
    AllPairs-cons (λ m n. m.slot ≢ n.slot) m ms (others m.slot ms (let here = h m.slot in let same = same_self m.slot in let few = rw same at here in omega (arith, few)))
    (once-apart ms (λ k. let few = h k in omega (arith, few)))

pub all-in : (slots : List ℕ) (ms : List Made) → ((k : ℕ) → times k (slots_of ms) ≤ times k slots) → All (λ m. Contains slots m.slot) ms
all-in slots [] h = All-nil (λ m. Contains slots m.slot)
all-in slots (m ∷ ms) h =
    All-cons (λ m. Contains slots m.slot) m ms
    (is-in m.slot slots (let here = h m.slot in let same = same_self m.slot in let some = rw same at here in omega (arith, some)))
    (all-in slots ms (λ k. let few = h k in omega (arith, few)))

none-left : (n : ℕ) → drop {A = Call} n [] ≡ []
none-left zero = refl
none-left (suc n) = refl

behind-first : (k : ℕ) (x : Option ℕ) (xs : List ℕ) → times k xs ≤ times k (cons_option x xs)
behind-first k None xs = omega arith
behind-first k (Some slot) xs = omega arith

-- the more have acted, the less is left
later : (k a b : ℕ) (cs : List Call) → a ≤ b → times k (slots_in (drop b cs)) ≤ times k (slots_in (drop a cs))
later k zero zero cs le = omega arith
later k zero (suc b) [] le = omega arith
later k zero (suc b) (c ∷ cs) le = omega (arith, later k zero b cs (omega arith), behind-first k (output_slot c) (slots_in cs))
later k (suc a) zero cs le = absurd (omega (arith, le))
later k (suc a) (suc b) [] le = omega arith
later k (suc a) (suc b) (c ∷ cs) le = later k a b cs (omega (arith, le))

-- one call with a slot has acted
one-later : (k slot a b : ℕ) (ds : List Call) (c : Call) (cs : List Call) → a + 1 ≤ b → drop a ds ≡ c ∷ cs → output_slot c ≡ Some slot
    → times k (slots_in (drop b ds)) + one_if (slot == k) ≤ times k (slots_in (drop a ds))
one-later k slot a b [] c cs le line is = absurd (let no : [] ≡ c ∷ cs = sym (none-left a) ∙ line in cc)
one-later k slot a zero (d ∷ ds) c cs le line is = absurd (omega (arith, le))
one-later k slot zero (suc b) (d ∷ ds) c cs le line is =
    let same : d ≡ c = cc in
    subst (λ (x : Option ℕ). times k (slots_in (drop b ds)) + one_if (slot == k) ≤ times k (cons_option x (slots_in ds))) (sym (ap output_slot same ∙ is))
    (omega (arith, later k zero b ds (omega arith)))
one-later k slot (suc a) (suc b) (d ∷ ds) c cs le line is = one-later k slot a b ds c cs (omega (arith, le)) line is

-- of the first processor and of the others
of-both : (k : ℕ) (cs : List Call) (css : List (List Call)) → times k (output_slots (cs ∷ css)) ≡ times k (slots_in cs) + times k (output_slots css)
of-both k cs css = ap (times k) (filter_map-append output_slot cs (all_calls css)) ∙ times-append k (slots_in cs) (output_slots css)

pub all-left : (k : ℕ) (css : List (List Call)) → times_left k css (λ p. 0) ≡ times k (output_slots css)
all-left k [] = refl
all-left k (cs ∷ css) = omega (arith, all-left k css, of-both k cs css)

-- what one processor names, and what two do, all name
of-one : (k : ℕ) (css : List (List Call)) (p : ℕ) → times k (slots_in (calls_of css p)) ≤ times k (output_slots css)
of-one k [] p = omega arith
of-one k (cs ∷ css) zero = omega (arith, of-both k cs css)
of-one k (cs ∷ css) (suc p) = omega (arith, of-both k cs css, of-one k css p)

pub of-two : (k : ℕ) (css : List (List Call)) (p q : ℕ) → p ≢ q → times k (slots_in (calls_of css p)) + times k (slots_in (calls_of css q)) ≤ times k (output_slots css)
of-two k [] p q ne = omega arith
of-two k (cs ∷ css) zero zero ne = absurd (ne refl)
of-two k (cs ∷ css) zero (suc q) ne = omega (arith, of-both k cs css, of-one k css q)
of-two k (cs ∷ css) (suc p) zero ne = omega (arith, of-both k cs css, of-one k css p)
of-two k (cs ∷ css) (suc p) (suc q) ne = omega (arith, of-both k cs css, of-two k css p q (λ e. ne (ap suc e)))

-- and what all name one does
pub by-one : (k : ℕ) (css : List (List Call)) → 1 ≤ times k (output_slots css) → (p : ℕ) × (p < length css) × (1 ≤ times k (slots_in (calls_of css p)))
by-one k [] h = absurd (omega (arith, h))
by-one k (cs ∷ css) h = by (λ some. by-one k css some) (cases_lt 0 (times k (slots_in cs)))
  where
    by : (1 ≤ times k (output_slots css) → (p : ℕ) × (p < length css) × (1 ≤ times k (slots_in (calls_of css p)))) → (0 < times k (slots_in cs)) ⊎ (times k (slots_in cs) ≤ 0)
        → (p : ℕ) × (p < length (cs ∷ css)) × (1 ≤ times k (slots_in (calls_of (cs ∷ css) p)))
    by further (inl some) = (0, omega arith, omega (arith, some))
    by further (inr none) = (let at = further (omega (arith, h, none, of-both k cs css)) in (suc at.0, omega (arith, at.1), at.2))

pub less-left : (k : ℕ) (css : List (List Call)) (before after : ℕ → ℕ) → ((q : ℕ) → before q ≤ after q) → times_left k css after ≤ times_left k css before
less-left k [] before after le = omega arith
less-left k (cs ∷ css) before after le =
    omega (arith, later k (before 0) (after 0) cs (le 0), less-left k css (λ p. before (suc p)) (λ p. after (suc p)) (λ q. le (suc q)))

pub one-less : (k slot : ℕ) (css : List (List Call)) (p : ℕ) (before after : ℕ → ℕ) (c : Call) (cs : List Call) → ((q : ℕ) → before q ≤ after q) → before p + 1 ≤ after p
    → drop (before p) (calls_of css p) ≡ c ∷ cs → output_slot c ≡ Some slot
    → times_left k css after + one_if (slot == k) ≤ times_left k css before
one-less k slot [] p before after c cs le more line is = absurd (let no : [] ≡ c ∷ cs = sym (none-left (before p)) ∙ line in cc)
one-less k slot (ds ∷ css) zero before after c cs le more line is =
    omega (arith, one-later k slot (before 0) (after 0) ds c cs more line is, less-left k css (λ p. before (suc p)) (λ p. after (suc p)) (λ q. le (suc q)))
one-less k slot (ds ∷ css) (suc p) before after c cs le more line is =
    omega (arith, later k (before 0) (after 0) ds (le 0), one-less k slot css p (λ p. before (suc p)) (λ p. after (suc p)) c cs (λ q. le (suc q)) more line is)

-- of one processor no more than of all
pub left-of-one : (k : ℕ) (css : List (List Call)) (acted : ℕ → ℕ) (p : ℕ) → times k (slots_in (drop (acted p) (calls_of css p))) ≤ times_left k css acted
left-of-one k [] acted p = let none = ap (λ (cs : List Call). times k (slots_in cs)) (none-left (acted p)) in omega (arith, none)
left-of-one k (cs ∷ css) acted zero = omega arith
left-of-one k (cs ∷ css) acted (suc p) = let rest = left-of-one k css (λ q. acted (suc q)) p in omega (arith, rest)
