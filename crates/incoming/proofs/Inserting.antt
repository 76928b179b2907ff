-- One bundle more, in its slot between the others.
use Rattle.std.proofs.Common.{◌≡◌, ◌∙◌, ◌<◌, ◌≤◌, ◌≢◌, ◌⊎◌, inl, inr, ℕ, zero, suc, List, [], ◌∷◌, ◌++◌, length, map, get_or, All, Some, None, Bool, true, false, ◌==◌, if◌then◌else◌, refl, ap, sym, subst, arith}
use Rattle.std.specs.List.{insert}
use Rattle.std.proofs.lemmas.Bool.{ne_eqb}
use Rattle.std.proofs.lemmas.Bool.Decides.{eqb_tells}
use Rattle.std.proofs.lemmas.List.Elements.{All-nil, All-cons, All-head, All-tail}
use Rattle.bundle_texts.proofs.Pairs.{pairs_cons, pairs_head, pairs_tail}
use Rattle.incoming.specs.declared.arrivals.Kept.{Kept}
use Rattle.incoming.specs.Arrivals.{SlotIncoming, at_slot, arrived, StandsWithin, StandWithin, SlotsRise}

abbrev Rises : Kept → Kept → Type 0
Rises a b = a.slot < b.slot

-- those before a place are below the slot, and those from there on above
pub record ArePartedAt (ks : List Kept) (at slot : ℕ) : Type 0 where
  pub below : (j : ℕ) (d : Kept) → j < at → (get_or ks j d).slot < slot
  pub above : (j : ℕ) (d : Kept) → at ≤ j → j < length ks → slot < (get_or ks j d).slot

parted-tail : (k : Kept) (ks : List Kept) (at slot : ℕ) → ArePartedAt (k ∷ ks) (suc at) slot → ArePartedAt ks at slot
parted-tail k ks at slot p = record { below = λ j d h. p.below (suc j) d (omega (arith, h)); above = λ j d h l. p.above (suc j) d (omega (arith, h)) (omega (arith, l)) }

parted-rest : (k : Kept) (ks : List Kept) (slot : ℕ) → ArePartedAt (k ∷ ks) 0 slot → ArePartedAt ks 0 slot
parted-rest k ks slot p = record { below = λ j d h. absurd (omega (arith, h)); above = λ j d h l. p.above (suc j) d (omega arith) (omega (arith, l)) }

-- so each of them is above
all-above : (x : Kept) (ks : List Kept) → ArePartedAt ks 0 x.slot → All (Rises x) ks
all-above x [] p = All-nil (Rises x)
all-above x (k ∷ ks) p = All-cons (Rises x) k ks (p.above 0 k (omega arith) (omega arith)) (all-above x ks (parted-rest k ks x.slot p))

insert-step : (k : Kept) (ks : List Kept) (at : ℕ) (x : Kept) → insert (k ∷ ks) (suc at) x ≡ k ∷ insert ks at x
insert-step k ks at x = refl

-- what holds of all of them and of the one holds of all with the one
all-with : (P : Kept → Type 0) (ks : List Kept) (at : ℕ) (x : Kept) → All P ks → P x → All P (insert ks at x)
all-with P ks zero x h own = All-cons P x ks own h
all-with P [] (suc at) x h own = All-cons P x [] own h
all-with P (k ∷ ks) (suc at) x h own = All-cons P k (insert ks at x) (All-head P k ks h) (all-with P ks at x (All-tail P k ks h) own)

pub rise-with : (ks : List Kept) (at : ℕ) (x : Kept) → SlotsRise ks → at ≤ length ks → ArePartedAt ks at x.slot → SlotsRise (insert ks at x)
rise-with ks zero x rise in-range p = pairs_cons Rises x ks (all-above x ks p) rise
rise-with [] (suc at) x rise in-range p = absurd (omega (arith, in-range))
rise-with (k ∷ ks) (suc at) x rise in-range p =
    pairs_cons Rises k (insert ks at x) (all-with (Rises k) ks at x (pairs_head Rises k ks rise) (p.below 0 k (omega arith)))
    (rise-with ks at x (pairs_tail Rises k ks rise) (omega (arith, in-range)) (parted-tail k ks at x.slot p))

pub stand-with : (n : ℕ) (ks : List Kept) (at : ℕ) (x : Kept) → StandWithin n ks → StandsWithin n x → StandWithin n (insert ks at x)
stand-with n ks at x h own = all-with (StandsWithin n) ks at x h own

-- what a slot has, with one more at the end

first-of : (b : SlotIncoming) (bs cs : List SlotIncoming) (n : ℕ) → at_slot bs n ≡ at_slot cs n → at_slot (b ∷ bs) n ≡ at_slot (b ∷ cs) n
first-of b bs cs n e = by (b.slot == n) e
  where
    by : (x : Bool) → at_slot bs n ≡ at_slot cs n → (if x then Some b.bundle else at_slot bs n) ≡ (if x then Some b.bundle else at_slot cs n)
    by true e = refl
    by false e = e

-- one of another slot leaves it
other-behind : (bs : List SlotIncoming) (b : SlotIncoming) (n : ℕ) → (b.slot == n) ≡ false → at_slot (bs ++ b ∷ []) n ≡ at_slot bs n
other-behind [] b n e = rw e refl
other-behind (x ∷ bs) b n e = first-of x (bs ++ b ∷ []) bs n (other-behind bs b n e)

-- and so does each where the slot has one
passed : (b : SlotIncoming) (xs : List SlotIncoming) → (at_slot xs b.slot ≡ None → ⊥) → at_slot xs b.slot ≡ at_slot (xs ++ b ∷ []) b.slot
passed b [] h = absurd (h refl)
passed b (x ∷ xs) h = on (x.slot == b.slot) h (passed b xs)
  where
    on : (y : Bool) → ((if y then Some x.bundle else at_slot xs b.slot) ≡ None → ⊥) → ((at_slot xs b.slot ≡ None → ⊥) → at_slot xs b.slot ≡ at_slot (xs ++ b ∷ []) b.slot)
        → (if y then Some x.bundle else at_slot xs b.slot) ≡ (if y then Some x.bundle else at_slot (xs ++ b ∷ []) b.slot)
    on true h rest = refl
    on false h rest = rest h

pub found-stays : (bs : List SlotIncoming) (b : SlotIncoming) (n : ℕ) → (at_slot bs b.slot ≡ None → ⊥) → at_slot bs n ≡ at_slot (bs ++ b ∷ []) n
found-stays bs b n some = by (eqb_tells b.slot n)
  where
    by : (((b.slot == n) ≡ true) × (b.slot ≡ n)) ⊎ (((b.slot == n) ≡ false) × (b.slot ≢ n)) → at_slot bs n ≡ at_slot (bs ++ b ∷ []) n
    by (inl same) = subst (λ (m : ℕ). at_slot bs m ≡ at_slot (bs ++ b ∷ []) m) same.1 (passed b bs some)
    by (inr other) = sym (other-behind bs b n other.0)

-- one that stands in its slot is as one at the end
pub slot-with : (words : List ℕ) (ks : List Kept) (at : ℕ) (x : Kept) (n : ℕ) → at ≤ length ks → ArePartedAt ks at x.slot
    → at_slot (map (arrived words) (insert ks at x)) n ≡ at_slot (map (arrived words) ks ++ arrived words x ∷ []) n
slot-with words ks zero x n in-range p = by (eqb_tells x.slot n)
  where
    none : (xs : List Kept) → ArePartedAt xs 0 x.slot → at_slot (map (arrived words) xs ++ arrived words x ∷ []) x.slot ≡ Some (arrived words x).bundle
    none [] q = (let own : (x.slot == x.slot) ≡ true = grind arith in rw own refl)
    none (y ∷ ys) q = (let over = q.above 0 y (omega arith) (omega arith) in rw (ne_eqb y.slot x.slot (λ e. omega (arith, over, e))) (none ys (parted-rest y ys x.slot q)))

    by : (((x.slot == n) ≡ true) × (x.slot ≡ n)) ⊎ (((x.slot == n) ≡ false) × (x.slot ≢ n))
        → at_slot (arrived words x ∷ map (arrived words) ks) n ≡ at_slot (map (arrived words) ks ++ arrived words x ∷ []) n
    by (inl same) = rw same.0 (sym (none ks p) ∙ ap (at_slot (map (arrived words) ks ++ arrived words x ∷ [])) same.1)
    by (inr other) = rw other.0 (sym (other-behind (map (arrived words) ks) (arrived words x) n other.0))
slot-with words [] (suc at) x n in-range p = absurd (omega (arith, in-range))
slot-with words (k ∷ ks) (suc at) x n in-range p =
    first-of (arrived words k) (map (arrived words) (insert ks at x)) (map (arrived words) ks ++ arrived words x ∷ []) n (slot-with words ks at x n (omega (arith, in-range)) (parted-tail k ks at x.slot p))

-- of one bundle

pub one-there : (bs : List SlotIncoming) (slot : ℕ) → map (λ (b : SlotIncoming). b.slot) bs ≡ slot ∷ [] → at_slot bs slot ≡ None → ⊥
one-there [] slot e none = absurd (cc)
one-there (b ∷ bs) slot e none =
    let same : b.slot ≡ slot = ap (λ (l : List ℕ). get_or l 0 0) e in
    let own : (b.slot == slot) ≡ true = grind (arith, same) in
    let bad : Some b.bundle ≡ None = sym (rw own refl) ∙ none in cc

pub one-of : (b : SlotIncoming) → at_slot (b ∷ []) b.slot ≡ Some b.bundle
one-of b = (let own : (b.slot == b.slot) ≡ true = grind arith in rw own refl)
