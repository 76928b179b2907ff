-- Where a text is cut at its first newline.
use Rattle.std.proofs.Common.{◌≡◌, ℕ, ◌+◌, ◌≤◌, ◌<◌, List, [], ◌∷◌, length, take, drop, Bool, true, false, cond, ltb, ◌==◌, Some, None, refl, arith, not}
use Rattle.std.specs.List.{slice_split, onto_first, position, position_or_len}
use Rattle.std.proofs.lemmas.List.Splits.{slice_split_first}
use Rattle.line_words.specs.Words.{pieces}

abbrev pub at : ℕ → ℕ → Bool
at c b = b == c

uncut_cons : (c x : ℕ) (xs : List ℕ) (b : Bool) → (length xs ≤ position_or_len (at c) xs → slice_split (at c) xs ≡ xs ∷ []) → length (x ∷ xs) ≤ cond (not b) (1 + position_or_len (at c) xs) 0
    → cond b ([] ∷ slice_split (at c) xs) (onto_first x (slice_split (at c) xs)) ≡ (x ∷ xs) ∷ []
uncut_cons c x xs true ih h = absurd (omega arith)
uncut_cons c x xs false ih h = rw (ih (omega arith)) refl

uncut : (c : ℕ) (xs : List ℕ) → length xs ≤ position_or_len (at c) xs → slice_split (at c) xs ≡ xs ∷ []
uncut c [] h = refl
uncut c (x ∷ xs) h = uncut_cons c x xs (at c x) (uncut c xs) h

some_is : (b : Bool) (n i : ℕ) → cond b (Some n) None ≡ Some i → (b ≡ true) × (n ≡ i)
some_is true n i h = (refl, cc)
some_is false n i h = cc

none_is : (b : Bool) (n : ℕ) → cond b (Some n) None ≡ None → b ≡ false
none_is true n h = cc
none_is false n h = refl

-- a text without the byte
pub split_none : (c : ℕ) (xs : List ℕ) → position (at c) xs ≡ None → slice_split (at c) xs ≡ xs ∷ []
split_none c xs h = uncut c xs (let e : ltb (position_or_len (at c) xs) (length xs) ≡ false = none_is _ (position_or_len (at c) xs) h in grind (arith, e))

-- a text whose first such byte stands at a place
pub split_some : (c : ℕ) (xs : List ℕ) (i : ℕ) → position (at c) xs ≡ Some i → slice_split (at c) xs ≡ take i xs ∷ slice_split (at c) (drop (i + 1) xs)
split_some c xs i h =
    let e : (ltb (position_or_len (at c) xs) (length xs) ≡ true) × (position_or_len (at c) xs ≡ i) = some_is _ _ _ h in
    let lt : position_or_len (at c) xs < length xs = grind (arith, e.0) in
    let cut : slice_split (at c) xs ≡ take (position_or_len (at c) xs) xs ∷ slice_split (at c) (drop (position_or_len (at c) xs + 1) xs) = slice_split_first (at c) xs 0 lt in
    rw e.1 at cut

-- and it stands inside the text
pub place_below : (c : ℕ) (xs : List ℕ) (i : ℕ) → position (at c) xs ≡ Some i → i < length xs
place_below c xs i h =
    let e : (ltb (position_or_len (at c) xs) (length xs) ≡ true) × (position_or_len (at c) xs ≡ i) = some_is _ _ _ h in
    grind (arith, e.0, e.1)

pub cut_none : (xs : List ℕ) → position (λ b. b == 10) xs ≡ None → pieces xs ≡ xs ∷ []
cut_none xs h = split_none 10 xs h

pub cut_some : (xs : List ℕ) (i : ℕ) → position (λ b. b == 10) xs ≡ Some i → pieces xs ≡ take i xs ∷ pieces (drop (i + 1) xs)
cut_some xs i h = split_some 10 xs i h

pub short_some : (xs : List ℕ) (i : ℕ) → position (λ b. b == 10) xs ≡ Some i → i < length xs
short_some xs i h = place_below 10 xs i h

pub space_below : (xs : List ℕ) (i : ℕ) → position (λ b. b == 32) xs ≡ Some i → i < length xs
space_below xs i h = place_below 32 xs i h
