-- Numbers of a few digits, and the words that follow.
use Rattle.std.proofs.Common.{◌≡◌, ℕ, ◌+◌, ◌-◌, ◌*◌, ◌^◌, ◌<◌, ◌≤◌, List, [], ◌∷◌, ◌++◌, length, map, take, drop, get_or, true, not, ◌==◌, Option, Some, refl, ap, sym, ◌∙◌, arith}
use Rattle.std.specs.List.{list_all}
use Rattle.std.proofs.lemmas.Bool.{and_from}
use Rattle.std.proofs.lemmas.List.{length-take, length-drop, take-append-drop, take_all, take_more, drop_more, take_rest, take-map}
use Rattle.std.proofs.Math.Seq.{take-append_seam}
use Rattle.std.proofs.lemmas.List.Folds.{list_all_more}
use Rattle.line_words.specs.Number.{is_digit, number_on, number}
use Rattle.line_words.specs.Words.{words}
use Rattle.line_words.proofs.Names.{words_behind}
use Rattle.line_words.proofs.NextWords.{one_kept, no_word}
use Rattle.line_words.proofs.Texts.{implied, uncut, unspaced, digit_in_word, one_digit, number_push, number_of}

pub digits_more : (xs : List ℕ) (i : ℕ) → i < length xs → list_all is_digit (take i xs) ≡ true → 48 ≤ get_or xs i 0 → get_or xs i 0 ≤ 57 → list_all is_digit (take (i + 1) xs) ≡ true
digits_more xs i below so_far low high =
    let e : is_digit (get_or xs i 0) ≡ true = grind arith in
    rw (list_all_more is_digit xs i 0 below) (and_from _ _ so_far e)

next_value : (n b : ℕ) (ds : List ℕ) → number_on 10 0 ds ≡ Some n → 48 ≤ b → b ≤ 57 → n * 10 + (b - 48) < 2 ^ 64 → number_on 10 0 (ds ++ b ∷ []) ≡ Some (n * 10 + (b - 48))
next_value n b ds so_far low high fits =
    let e : 48 + (b - 48) ≡ b = omega (arith, low) in
    ap (λ (x : ℕ). number_on 10 0 (ds ++ x ∷ [])) (sym e)
    ∙ number_push 0 n ds (48 + (b - 48)) so_far
    ∙ one_digit n (b - 48) (omega (arith, high)) fits

pub value_more : (xs : List ℕ) (i n : ℕ) → i < length xs → number_on 10 0 (take i xs) ≡ Some n → 48 ≤ get_or xs i 0 → get_or xs i 0 ≤ 57 → n * 10 + (get_or xs i 0 - 48) < 2 ^ 64
    → number_on 10 0 (take (i + 1) xs) ≡ Some (n * 10 + (get_or xs i 0 - 48))
value_more xs i n below so_far low high fits = rw (take_more xs i 0 below) (next_value n (get_or xs i 0) (take i xs) so_far low high fits)

-- digits before a space are a word, and so are digits alone
unspaced_digits : (ds : List ℕ) → list_all is_digit ds ≡ true → list_all (λ b. not (b == 32)) ds ≡ true
unspaced_digits ds digits = implied is_digit (λ b. not (b == 32)) (λ b h. unspaced b (digit_in_word b h)) ds digits

one_word : (ds : List ℕ) → list_all is_digit ds ≡ true → 0 < length ds → words ds ≡ ds ∷ []
one_word ds digits some = rw (uncut (λ b. b == 32) ds (unspaced_digits ds digits)) (one_kept ds [] some)

number_is : (n : ℕ) (ds : List ℕ) → list_all is_digit ds ≡ true → 0 < length ds → number_on 10 0 ds ≡ Some n → number ds ≡ Some n
number_is n ds digits some value = number_of n ds digits (grind arith) value

pub last_number : (xs : List ℕ) (i n : ℕ) → 0 < i → i ≡ length xs → list_all is_digit (take i xs) ≡ true → number_on 10 0 (take i xs) ≡ Some n
    → map number (words xs) ≡ Some n ∷ map number (words (take (length xs - i) (drop i xs)))
last_number xs i n some e digits value =
    let none : words (take (length xs - i) (drop i xs)) ≡ [] = no_word (take (length xs - i) (drop i xs)) (simp (length-take, length-drop) (omega (arith, e))) in
    let whole : take i xs ≡ xs = take_all i xs (omega (arith, e)) in
    let front : 0 < length (take i xs) = rw whole (omega (arith, e, some)) in
    let is : words xs ≡ take i xs ∷ [] = ap (λ (x : List ℕ). words x) (sym whole) ∙ one_word (take i xs) digits front in
    rw (none, is, number_is n (take i xs) digits front value) refl

pub number_cut : (xs : List ℕ) (i n : ℕ) → 0 < i → i < length xs → list_all is_digit (take i xs) ≡ true → number_on 10 0 (take i xs) ≡ Some n → get_or xs i 0 ≡ 32
    → map number (words xs) ≡ Some n ∷ map number (words (take (length xs - (i + 1)) (drop (i + 1) xs)))
number_cut xs i n some below digits value space =
    let front : 0 < length (take i xs) = grind (arith, length-take i xs, some, below) in
    let parts : xs ≡ take i xs ++ 32 ∷ drop (i + 1) xs =
    sym (take-append-drop i xs) ∙ ap (λ (x : List ℕ). take i xs ++ x) (drop_more xs i 0 below ∙ ap (λ (b : ℕ). b ∷ drop (i + 1) xs) space) in
    let is : words xs ≡ take i xs ∷ words (drop (i + 1) xs) =
    ap (λ (x : List ℕ). words x) parts ∙ words_behind (take i xs) (drop (i + 1) xs) (unspaced_digits (take i xs) digits) front in
    rw (take_rest xs (i + 1), is, number_is n (take i xs) digits front value) refl

-- where there is room for no more, these are the first numbers
pub filled : (numbers more : List (Option ℕ)) (i n : ℕ) (ws : List (List ℕ)) → i ≡ length numbers → n ≡ length numbers → map number ws ≡ take i numbers ++ more → take (length numbers) numbers ≡ map number (take n ws)
filled numbers more i n ws whole room h =
    let all : take i numbers ≡ numbers = take_all i numbers (omega (arith, whole)) in
    let front : take n (numbers ++ more) ≡ numbers = rw room (take-append_seam numbers more) in
    take_all (length numbers) numbers (omega arith)
    ∙ sym front
    ∙ ap (λ (xs : List (Option ℕ)). take n (xs ++ more)) (sym all)
    ∙ ap (λ (xs : List (Option ℕ)). take n xs) (sym h)
    ∙ take-map number n ws
