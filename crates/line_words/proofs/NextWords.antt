-- The first word of a text, and the words behind it.
use Rattle.std.proofs.Common.{◌≡◌, ℕ, ◌+◌, ◌-◌, ◌<◌, List, [], ◌∷◌, length, take, drop, get_or, Bool, true, false, not, ◌==◌, Some, None, refl, arith}
use Rattle.std.specs.List.{filter, slice_split, onto_first, position}
use Rattle.std.proofs.lemmas.List.{length-take, length-drop, take_rest}
use Rattle.std.proofs.lemmas.List.Quantifiers.{position-Some}
use Rattle.line_words.specs.Words.{words, without_front_spaces, is_skipped}
use Rattle.line_words.proofs.Pieces.{at, split_none, split_some, space_below}

abbrev has_bytes : List ℕ → Bool
has_bytes w = not (length w == 0)

skipped : (x : ℕ) (xs : List ℕ) → (x == 32) ≡ true → words xs ≡ words (x ∷ xs)
skipped x xs h = rw h refl

-- a space before words changes none
pub space_skipped : (xs : List ℕ) → 0 < length xs → get_or xs 0 0 ≡ 32 → words (drop 1 xs) ≡ words xs
space_skipped [] some h = refl
space_skipped (x ∷ xs) some h = skipped x xs (let e : x ≡ 32 = h in grind (arith, e))

pub one_kept : (w : List ℕ) (ws : List (List ℕ)) → 0 < length w → filter has_bytes (w ∷ ws) ≡ w ∷ filter has_bytes ws
one_kept w ws some = let e : (length w == 0) ≡ false = grind arith in rw e refl

-- a text without a space is one word
pub last_word : (xs : List ℕ) → 0 < length xs → position (λ b. b == 32) xs ≡ None → words xs ≡ xs ∷ []
last_word xs some h = rw (split_none 32 xs h) (one_kept xs [] some)

pub no_word : (xs : List ℕ) → length xs ≡ 0 → words xs ≡ []
no_word [] h = refl
no_word (x ∷ xs) h = absurd (omega arith)

-- the first space of a word stands behind its first byte
pub behind_first : (xs : List ℕ) (i : ℕ) → (get_or xs 0 0 ≡ 32 → ⊥) → position (λ b. b == 32) xs ≡ Some i → 0 < i
behind_first xs i first h =
    let p : (i < length xs) × (at 32 (get_or xs i 0) ≡ true) × ((k : ℕ) → k < i → at 32 (get_or xs k 0) ≡ false) = position-Some (at 32) xs i 0 h in
    let e : get_or xs i 0 ≡ 32 = grind (arith, p.1) in
    grind (arith, e, first)

-- a word, the space behind it, and the words that follow
pub word_cut : (xs : List ℕ) (i : ℕ) → (get_or xs 0 0 ≡ 32 → ⊥) → position (λ b. b == 32) xs ≡ Some i → words xs ≡ take i xs ∷ words (drop (i + 1) xs)
word_cut xs i first h =
    let some : 0 < i = behind_first xs i first h in
    let below : i < length xs = space_below xs i h in
    rw (split_some 32 xs i h) (one_kept (take i xs) (slice_split (at 32) (drop (i + 1) xs)) (simp length-take (omega arith)))

-- the parts that the code names
pub last_parts : (xs : List ℕ) (n : ℕ) → 0 < length xs → n ≡ length xs → position (λ b. b == 32) xs ≡ None → words xs ≡ xs ∷ words (take (length xs - n) (drop n xs))
last_parts xs n some e h =
    let none : words (take (length xs - n) (drop n xs)) ≡ [] = no_word (take (length xs - n) (drop n xs)) (simp (length-take, length-drop) (omega arith)) in
    rw none (last_word xs some h)

pub cut_parts : (xs : List ℕ) (i : ℕ) → (get_or xs 0 0 ≡ 32 → ⊥) → position (λ b. b == 32) xs ≡ Some i → words xs ≡ take i xs ∷ words (take (length xs - (i + 1)) (drop (i + 1) xs))
cut_parts xs i first h = rw (take_rest xs (i + 1)) (word_cut xs i first h)

skipped_by : (x : ℕ) (rest : List (List ℕ)) → is_skipped (filter has_bytes (onto_first x rest)) ≡ (x == 35)
skipped_by x [] = refl
skipped_by x (w ∷ ws) = rw (one_kept (x ∷ w) ws (omega arith)) refl

-- a text that begins with no space is skipped by its first byte
pub first_byte : (xs : List ℕ) → 0 < length xs → (get_or xs 0 0 ≡ 32 → ⊥) → is_skipped (words xs) ≡ (get_or xs 0 0 == 35)
first_byte [] some front = absurd (omega arith)
first_byte (x ∷ xs) some front =
    let e : (x == 32) ≡ false = grind (arith, front) in
    rw e (skipped_by x (slice_split (λ b. b == 32) xs))

-- a space in front is left out, and nothing else
pub front_skipped : (xs : List ℕ) → 0 < length xs → get_or xs 0 0 ≡ 32 → without_front_spaces (drop 1 xs) ≡ without_front_spaces xs
front_skipped [] some h = refl
front_skipped (x ∷ xs) some h = let e : (x == 32) ≡ true = grind (arith, h) in rw e refl

pub front_kept : (xs : List ℕ) → (0 < length xs → get_or xs 0 0 ≡ 32 → ⊥) → without_front_spaces xs ≡ xs
front_kept [] h = refl
front_kept (x ∷ xs) h = let e : (x == 32) ≡ false = grind (arith, h (omega arith)) in rw e refl
