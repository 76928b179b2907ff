-- The hexadecimal digits of a word, as a loop writes them: from the last to the first.
use Rattle.std.proofs.Common.{◌≡◌, ℕ, zero, suc, ◌+◌, ◌-◌, ◌/◌, ◌%◌, ◌^◌, ◌<◌, ◌≤◌, ◌==◌, Bool, true, false, if◌then◌else◌, List, [], ◌∷◌, ◌++◌, drop, length, slice_set, refl, ap, sym, ◌∙◌, arith}
use Rattle.std.specs.Fmt.{digits, digits_onto, digit_glyph}
use Rattle.std.proofs.lemmas.Bool.{eq-eqb, ne_eqb}
use Rattle.std.proofs.lemmas.List.{drop-set}

abbrev glyph : ℕ → ℕ
glyph n = digit_glyph false (n % 16)

last : (k n : ℕ) (acc : List ℕ) → n / 16 ≡ 0 → digits_onto (suc k) 16 false n acc ≡ glyph n ∷ acc
last k n acc h = ap (λ (t : Bool). if t then glyph n ∷ acc else digits_onto k 16 false (n / 16) (glyph n ∷ acc)) (eq-eqb (n / 16) 0 h)

next : (k n : ℕ) (acc : List ℕ) → (n / 16 ≡ 0 → ⊥) → digits_onto (suc k) 16 false n acc ≡ digits_onto k 16 false (n / 16) (glyph n ∷ acc)
next k n acc h = ap (λ (t : Bool). if t then glyph n ∷ acc else digits_onto k 16 false (n / 16) (glyph n ∷ acc)) (ne_eqb (n / 16) 0 h)

-- what stands behind the digits stays there
behind : (t : Bool) (xs ys zs : List ℕ) → (if t then xs ++ zs else ys ++ zs) ≡ (if t then xs else ys) ++ zs
behind true xs ys zs = refl
behind false xs ys zs = refl

onto-append : (k n : ℕ) (xs ys : List ℕ) → digits_onto k 16 false n (xs ++ ys) ≡ digits_onto k 16 false n xs ++ ys
onto-append zero n xs ys = refl
onto-append (suc k) n xs ys =
    ap (λ (l : List ℕ). if n / 16 == 0 then glyph n ∷ (xs ++ ys) else l) (onto-append k (n / 16) (glyph n ∷ xs) ys)
    ∙ behind (n / 16 == 0) (glyph n ∷ xs) (digits_onto k 16 false (n / 16) (glyph n ∷ xs)) ys

-- more digits than a number has are as good
enough : (j k n : ℕ) (acc : List ℕ) → n < 16 ^ suc j → n < 16 ^ suc k → digits_onto (suc j) 16 false n acc ≡ digits_onto (suc k) 16 false n acc
enough zero k n acc p q = last zero n acc (omega arith) ∙ sym (last k n acc (omega arith))
enough (suc j) zero n acc p q = last (suc j) n acc (omega arith) ∙ sym (last zero n acc (omega arith))
enough (suc j) (suc k) n acc p q = ap (λ (l : List ℕ). if n / 16 == 0 then glyph n ∷ acc else l) (enough j k (n / 16) (glyph n ∷ acc) (omega arith) (omega arith))

-- sixteen are enough for a word
pub sixteen : (n : ℕ) (acc : List ℕ) → n < 2 ^ 64 → digits_onto 16 16 false n acc ≡ digits 16 false n ++ acc
unfolding digits
sixteen n acc h = enough 15 63 n acc (omega arith) (omega arith) ∙ onto-append 64 n [] acc

-- one digit put in front of those that stand from at on, of which i were left and now j are
put : (line : List ℕ) (at c : ℕ) → 0 < at → at ≤ length line → drop (at - 1) (slice_set line (at - 1) c) ≡ c ∷ drop at line
put line at c some within =
    let is : at - 1 + 1 ≡ at = omega arith in
    drop-set line (at - 1) c (omega arith) ∙ ap (λ n. c ∷ drop n line) is

pub put-next : (line : List ℕ) (at c i j n : ℕ) → 0 < at → at ≤ length line → i ≡ suc j → c ≡ digit_glyph false (n % 16) → (n / 16 ≡ 0 → ⊥)
    → digits_onto j 16 false (n / 16) (drop (at - 1) (slice_set line (at - 1) c)) ≡ digits_onto i 16 false n (drop at line)
put-next line at c i j n some within is same more =
    ap (digits_onto j 16 false (n / 16)) (put line at c some within ∙ ap (λ g. g ∷ drop at line) same)
    ∙ sym (next j n (drop at line) more)
    ∙ ap (λ k. digits_onto k 16 false n (drop at line)) (sym is)

pub put-last : (line : List ℕ) (at c i j n : ℕ) → 0 < at → at ≤ length line → i ≡ suc j → c ≡ digit_glyph false (n % 16) → n / 16 ≡ 0
    → drop (at - 1) (slice_set line (at - 1) c) ≡ digits_onto i 16 false n (drop at line)
put-last line at c i j n some within is same none =
    put line at c some within
    ∙ ap (λ g. g ∷ drop at line) same
    ∙ sym (last j n (drop at line) none)
    ∙ ap (λ k. digits_onto k 16 false n (drop at line)) (sym is)
