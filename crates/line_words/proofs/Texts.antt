-- The words of a line that is written out, and its numbers.
use Rattle.std.proofs.Common.{◌≡◌, ℕ, ◌+◌, ◌*◌, ◌/◌, ◌%◌, ◌^◌, ◌<◌, ◌≤◌, List, [], ◌∷◌, ◌++◌, length, map, Bool, true, false, not, cond, ◌==◌, ◌&&◌, Some, None, refl, ap, ◌∙◌, arith}
use Rattle.std.specs.Prelude.{nat_le, nat_lt, filter}
use Rattle.std.specs.List.{All, list_all, slice_split}
use Rattle.std.specs.Fmt.{decimal}
use Rattle.std.proofs.lemmas.Bool.{and_parts, and_from, not-true}
use Rattle.std.proofs.lemmas.Fmt.{decimal_by_steps}
use Rattle.std.proofs.lemmas.List.{length-append, append-nil, append_assoc}
use Rattle.std.proofs.lemmas.List.Elements.{All-nil, All-cons, All-head, All-tail}
use Rattle.std.proofs.lemmas.List.Folds.{list_all-append}
use Rattle.line_words.specs.Number.{digit, is_digit, number, number_on}
use Rattle.line_words.specs.Words.{words, pieces, is_printable}
use Rattle.line_words.specs.Lines.{words_text, line_text}

-- a test that follows from another
pub implied : (p q : ℕ → Bool) → ((b : ℕ) → p b ≡ true → q b ≡ true) → (w : List ℕ) → list_all p w ≡ true → list_all q w ≡ true
implied p q f [] h = refl
implied p q f (x ∷ w) h = and_from (q x) (list_all q w) (f x (and_parts (p x) (list_all p w) h).0) (implied p q f w (and_parts (p x) (list_all p w) h).1)

-- a list is cut at the first element that passes
pub cut_at : (p : ℕ → Bool) (w : List ℕ) (y : ℕ) (ys : List ℕ) → list_all (λ b. not (p b)) w ≡ true → p y ≡ true → slice_split p (w ++ y ∷ ys) ≡ w ∷ slice_split p ys
cut_at p [] y ys h k = rw k refl
cut_at p (x ∷ w) y ys h k =
    let e = and_parts (not (p x)) (list_all (λ b. not (p b)) w) h in
    rw (not-true (p x) e.0, cut_at p w y ys e.1 k) refl

pub uncut : (p : ℕ → Bool) (w : List ℕ) → list_all (λ b. not (p b)) w ≡ true → slice_split p w ≡ w ∷ []
uncut p [] h = refl
uncut p (x ∷ w) h =
    let e = and_parts (not (p x)) (list_all (λ b. not (p b)) w) h in
    rw (not-true (p x) e.0, uncut p w e.1) refl

-- the bytes of words
abbrev pub is_word_byte : ℕ → Bool
is_word_byte b = nat_le 33 b && nat_le b 126

pub record IsWord (w : List ℕ) : Type 0 where
  pub bytes : list_all is_word_byte w ≡ true
  pub some : (length w == 0) ≡ false

pub digit_in_word : (b : ℕ) → is_digit b ≡ true → is_word_byte b ≡ true
digit_in_word b h = grind arith

pub unspaced : (b : ℕ) → is_word_byte b ≡ true → not (b == 32) ≡ true
unspaced b h = grind arith

-- what decimal digits are
pub record IsDecimal (n : ℕ) (ds : List ℕ) : Type 0 where
  pub digits : list_all is_digit ds ≡ true
  pub some : (length ds == 0) ≡ false
  pub value : n < 2 ^ 64 → number_on 10 0 ds ≡ Some n

digit_is : (r : ℕ) → r < 10 → digit (48 + r) ≡ r
digit_is r h = grind arith

is_digit_at : (r : ℕ) → r < 10 → is_digit (48 + r) ≡ true
is_digit_at r h = grind arith

pub one_digit : (m r : ℕ) → r < 10 → m * 10 + r < 2 ^ 64 → number_on 10 m ((48 + r) ∷ []) ≡ Some (m * 10 + r)
one_digit m r small fits =
    let a : nat_lt r 10 ≡ true = grind arith in
    let b : nat_lt (m * 10 + r) (2 ^ 64) ≡ true = grind arith in
    rw (digit_is r small, a, b) refl

push_cases : (b : Bool) (m k : ℕ) (ds : List ℕ) (c : ℕ) → (number_on 10 m ds ≡ Some k → number_on 10 m (ds ++ c ∷ []) ≡ number_on 10 k (c ∷ [])) → cond b (number_on 10 m ds) None ≡ Some k → cond b (number_on 10 m (ds ++ c ∷ [])) None ≡ number_on 10 k (c ∷ [])
push_cases true m k ds c ih h = ih h
push_cases false m k ds c ih h = cc

pub number_push : (m k : ℕ) (ds : List ℕ) (c : ℕ) → number_on 10 m ds ≡ Some k → number_on 10 m (ds ++ c ∷ []) ≡ number_on 10 k (c ∷ [])
number_push m k [] c h = let e : m ≡ k = cc in ap (λ (x : ℕ). number_on 10 x (c ∷ [])) e
number_push m k (x ∷ ds) c h = push_cases (nat_lt (digit x) 10 && nat_lt (m * 10 + digit x) (2 ^ 64)) (m * 10 + digit x) k ds c (number_push (m * 10 + digit x) k ds c) h

all_push : (ds : List ℕ) (c : ℕ) → list_all is_digit ds ≡ true → is_digit c ≡ true → list_all is_digit (ds ++ c ∷ []) ≡ true
all_push ds c h k = rw list_all-append (and_from (list_all is_digit ds) (list_all is_digit (c ∷ [])) h (and_from (is_digit c) true k refl))

some_push : (ds : List ℕ) (c : ℕ) → (length (ds ++ c ∷ []) == 0) ≡ false
some_push ds c = grind (arith, length-append ds (c ∷ []))

first_digit : (n : ℕ) → n < 10 → IsDecimal n ((48 + n) ∷ [])
first_digit n h = record {
  digits = and_from (is_digit (48 + n)) true (is_digit_at n h) refl;
  some = refl;
  value = λ f. one_digit 0 n h (omega arith) ∙ ap Some (let e : 0 * 10 + n ≡ n = omega arith in e);
}

next_digit : (n : ℕ) (ds : List ℕ) → 10 ≤ n → IsDecimal (n / 10) ds → IsDecimal n (ds ++ ((48 + n % 10) ∷ []))
next_digit n ds big p =
    let small : n % 10 < 10 = omega arith in
    record {
      digits = all_push ds (48 + n % 10) p.digits (is_digit_at (n % 10) small);
      some = some_push ds (48 + n % 10);
      value = λ f.
          number_push 0 (n / 10) ds (48 + n % 10) (p.value (omega arith))
          ∙ one_digit (n / 10) (n % 10) small (omega arith)
          ∙ ap Some (let e : n / 10 * 10 + n % 10 ≡ n = omega arith in e);
    }

pub decimal_is : (n : ℕ) → n < 2 ^ 64 → IsDecimal n (decimal n)
decimal_is n h = decimal_by_steps IsDecimal first_digit next_digit n h

no_prefix : (a b : Bool) → ((a && b) && false) ≡ false
no_prefix true true = refl
no_prefix true false = refl
no_prefix false b = refl

not_letter : (b : ℕ) → is_digit b ≡ true → (b == 120) ≡ false
not_letter b h = grind arith

pub number_of : (n : ℕ) (ds : List ℕ) → list_all is_digit ds ≡ true → (length ds == 0) ≡ false → number_on 10 0 ds ≡ Some n → number ds ≡ Some n
number_of n [] h k e = cc
number_of n (a ∷ []) h k e = e
number_of n (a ∷ b ∷ ds) h k e =
    let x : (b == 120) ≡ false = not_letter b (and_parts (is_digit b) (list_all is_digit ds) (and_parts (is_digit a) (list_all is_digit (b ∷ ds)) h).1).0 in
    rw (x, no_prefix) e

pub number_decimal : (n : ℕ) → n < 2 ^ 64 → number (decimal n) ≡ Some n
number_decimal n h = let d : IsDecimal n (decimal n) = decimal_is n h in number_of n (decimal n) d.digits d.some (d.value h)

-- numbers of 64 bits
abbrev pub fits : ℕ → Bool
fits n = nat_lt n (2 ^ 64)

pub fits_below : (n : ℕ) → fits n ≡ true → n < 2 ^ 64
fits_below n h = grind arith

pub decimal_is_word : (n : ℕ) → fits n ≡ true → IsWord (decimal n)
decimal_is_word n h =
    let d : IsDecimal n (decimal n) = decimal_is n (fits_below n h) in
    record { bytes = implied is_digit is_word_byte digit_in_word (decimal n) d.digits; some = d.some }

pub decimals_are_words : (ns : List ℕ) → list_all fits ns ≡ true → All IsWord (map decimal ns)
decimals_are_words [] h = All-nil IsWord
decimals_are_words (n ∷ ns) h =
    let f = and_parts (fits n) (list_all fits ns) h in
    All-cons IsWord (decimal n) (map decimal ns) (decimal_is_word n f.0) (decimals_are_words ns f.1)

split_text : (w : List ℕ) (ws : List (List ℕ)) → IsWord w → All IsWord ws → slice_split (λ b. b == 32) (w ++ words_text ws) ≡ w ∷ ws
split_text w [] h k = rw append-nil (uncut (λ b. b == 32) w (implied is_word_byte (λ b. not (b == 32)) unspaced w h.bytes))
split_text w (v ∷ ws) h k =
    cut_at (λ b. b == 32) w 32 (v ++ words_text ws) (implied is_word_byte (λ b. not (b == 32)) unspaced w h.bytes) refl
    ∙ ap (λ (t : List (List ℕ)). w ∷ t) (split_text v ws (All-head IsWord v ws k) (All-tail IsWord v ws k))

abbrev has_bytes : List ℕ → Bool
has_bytes w = not (length w == 0)

kept : (w : List ℕ) (ws : List (List ℕ)) → (length w == 0) ≡ false → filter has_bytes ws ≡ ws → filter has_bytes (w ∷ ws) ≡ w ∷ ws
kept w ws h k = rw (h, k) refl

kept_words : (ws : List (List ℕ)) → All IsWord ws → filter has_bytes ws ≡ ws
kept_words [] h = refl
kept_words (w ∷ ws) h = let is : IsWord w = All-head IsWord w ws h in kept w ws is.some (kept_words ws (All-tail IsWord w ws h))

pub words_again : (w : List ℕ) (ws : List (List ℕ)) → IsWord w → All IsWord ws → words (w ++ words_text ws) ≡ w ∷ ws
words_again w ws h k = rw (split_text w ws h k) (kept w ws h.some (kept_words ws k))

-- the bytes of lines
abbrev is_line_byte : ℕ → Bool
is_line_byte b = nat_le 32 b && nat_le b 126

in_line : (b : ℕ) → is_word_byte b ≡ true → is_line_byte b ≡ true
in_line b h = grind arith

line_bytes : (w : List ℕ) (ws : List (List ℕ)) → IsWord w → All IsWord ws → list_all is_line_byte (w ++ words_text ws) ≡ true
line_bytes w [] h k = rw append-nil (implied is_word_byte is_line_byte in_line w h.bytes)
line_bytes w (v ∷ ws) h k =
    rw list_all-append
    (and_from (list_all is_line_byte w) (list_all is_line_byte (v ++ words_text ws)) (implied is_word_byte is_line_byte in_line w h.bytes) (line_bytes v ws (All-head IsWord v ws k) (All-tail IsWord v ws k)))

in_print : (b : ℕ) → is_line_byte b ≡ true → (nat_le 0x20 b && nat_le b 0x7e) ≡ true
in_print b h = h

unended : (b : ℕ) → is_line_byte b ≡ true → not (b == 10) ≡ true
unended b h = grind arith

pub printable_text : (w : List ℕ) (ws : List (List ℕ)) → IsWord w → All IsWord ws → is_printable (w ++ words_text ws) ≡ true
printable_text w ws h k = implied is_line_byte (λ b. nat_le 0x20 b && nat_le b 0x7e) in_print (w ++ words_text ws) (line_bytes w ws h k)

pub pieces_text : (w : List ℕ) (ws : List (List ℕ)) (rest : List ℕ) → IsWord w → All IsWord ws → pieces (line_text w ws ++ rest) ≡ (w ++ words_text ws) ∷ pieces rest
pieces_text w ws rest h k =
    rw append_assoc
    (cut_at (λ b. b == 10) (w ++ words_text ws) 10 rest (implied is_line_byte (λ b. not (b == 10)) unended (w ++ words_text ws) (line_bytes w ws h k)) refl)

pub numbers_read : (ns : List ℕ) → list_all fits ns ≡ true → map number (map decimal ns) ≡ map Some ns
numbers_read [] h = refl
numbers_read (n ∷ ns) h =
    let f = and_parts (fits n) (list_all fits ns) h in
    rw (number_decimal n (fits_below n f.0), numbers_read ns f.1) refl

-- numbers with names behind them
pub names_read : (ns : List ℕ) (names : List (List ℕ)) → list_all fits ns ≡ true → map number (map decimal ns ++ names) ≡ map Some ns ++ map number names
names_read [] names h = refl
names_read (n ∷ ns) names h =
    let f = and_parts (fits n) (list_all fits ns) h in
    rw (number_decimal n (fits_below n f.0), names_read ns names f.1) refl
