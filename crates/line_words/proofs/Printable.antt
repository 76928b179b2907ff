-- What the first byte that isn't printable tells of a line.
use Rattle.std.proofs.Common.{◌≡◌, ℕ, ◌+◌, ◌-◌, ◌<◌, ◌≤◌, List, ◌∷◌, length, take, drop, get_or, true, false, ltb, ◌==◌, Some, refl, arith}
use Rattle.std.specs.List.{position, position_or_len}
use Rattle.std.proofs.lemmas.List.{get_or-take, length-take, take_rest}
use Rattle.std.proofs.lemmas.List.Elements.{All-from_get_or}
use Rattle.std.proofs.lemmas.List.Folds.{list_all_at}
use Rattle.std.proofs.lemmas.List.Quantifiers.{position-Some}
use Rattle.std.proofs.lemmas.List.Sums.{position_or_len_is, list_all-from_AllPass}
use Rattle.line_words.specs.Words.{pieces, is_printable_byte, is_printable}
use Rattle.line_words.proofs.Pieces.{at, cut_some}

-- the bytes before a place are printable
abbrev pub IsPrintableTo : List ℕ → ℕ → Type 0
IsPrintableTo xs i = (k : ℕ) → k < i → is_printable_byte (get_or xs k 0) ≡ true

unended : (b : ℕ) → is_printable_byte b ≡ true → (b == 10) ≡ false
unended b h = grind arith

-- a newline behind printable bytes is the first
pub newline_at : (xs : List ℕ) (i : ℕ) → i < length xs → IsPrintableTo xs i → get_or xs i 0 ≡ 10 → position (at 10) xs ≡ Some i
newline_at xs i below front here =
    let e : position_or_len (at 10) xs ≡ i = position_or_len_is (at 10) xs i 0 (omega (arith, below)) (λ k l. unended (get_or xs k 0) (front k l)) (λ h. grind (arith, here)) in
    let lt : ltb i (length xs) ≡ true = grind (arith, below) in
    rw (e, lt) refl

pub printable_front : (xs : List ℕ) (i : ℕ) → i ≤ length xs → IsPrintableTo xs i → is_printable (take i xs) ≡ true
printable_front xs i inside front =
    list_all-from_AllPass is_printable_byte (take i xs)
    (All-from_get_or (λ b. is_printable_byte b ≡ true) (take i xs) 0 (λ k l. let lt : k < i = grind (arith, l, length-take i xs) in rw (get_or-take i xs k 0 lt) (front k lt)))

pub good_cut : (xs : List ℕ) (i : ℕ) → i < length xs → IsPrintableTo xs i → get_or xs i 0 ≡ 10 → pieces xs ≡ take i xs ∷ pieces (take (length xs - (i + 1)) (drop (i + 1) xs))
good_cut xs i below front here = rw (take_rest xs (i + 1)) (cut_some xs i (newline_at xs i below front here))

-- a byte that isn't printable and no newline stands in its line
pub bad_front : (xs : List ℕ) (i end : ℕ) → IsPrintableTo xs i → (i < length xs → is_printable_byte (get_or xs i 0) ≡ false) → (i < length xs → (get_or xs i 0 == 10) ≡ false)
    → position (at 10) xs ≡ Some end → is_printable (take end xs) ≡ false
bad_front xs i end front here other h =
    let p : (end < length xs) × (at 10 (get_or xs end 0) ≡ true) × ((k : ℕ) → k < end → at 10 (get_or xs k 0) ≡ false) = position-Some (at 10) xs end 0 h in
    let least : i ≤ end = grind (arith, p.1, front end) in
    let inside : i < length xs = omega (arith, least, p.0) in
    let lt : i < end = grind (arith, p.1, least, other inside) in
    list_all_at is_printable_byte (take end xs) i 0 (grind (arith, length-take end xs, lt, p.0)) (rw (get_or-take end xs i 0 lt) (here inside))
