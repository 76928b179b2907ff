-- Hexadecimal digits, and the text of a digest, as lines have it.
use Rattle.std.proofs.Common.{◌≡◌, ℕ, zero, suc, ◌/◌, ◌%◌, ◌<◌, ◌==◌, ◌&&◌, inl, inr, Bool, true, false, List, [], ◌∷◌, slice_index, refl, ap, sym, ◌∙◌, arith}
use Rattle.std.specs.Fmt.{digits, digit_glyph}
use Rattle.std.proofs.lemmas.Bool.{and_parts, cases_lt, eqb-true}
use Rattle.std.proofs.lemmas.Fmt.{hex_one_digit}
use Rattle.hex.specs.Hex.{encode_with, encode_lower, lower_digits}
use Rattle.td_words.specs.ReplyText.{byte_text, digest_text}

abbrev agrees : ℕ → Bool
agrees d = digit_glyph false d == slice_index lower_digits d

-- the first n digits
abbrev all_agree : ℕ → Bool
all_agree zero = true
all_agree (suc n) = agrees n && all_agree n

agreed : (n d : ℕ) → all_agree n ≡ true → d < n → agrees d ≡ true
agreed zero d h lt = absurd (omega arith)
agreed (suc n) d h lt =
    let p = and_parts (agrees n) (all_agree n) h in
    elim (cases_lt d n) [
      | inl below ↦ agreed n d p.1 below
      | inr top ↦ let e : d ≡ n = omega arith in rw e p.0
    ]

pub glyph : (d : ℕ) → d < 16 → slice_index lower_digits d ≡ digit_glyph false d
glyph d h = sym (eqb-true (digit_glyph false d) (slice_index lower_digits d) (agreed 16 d refl h))

one_digit : (d : ℕ) → d < 16 → digits 16 false d ≡ slice_index lower_digits d ∷ []
one_digit d h = hex_one_digit false d h ∙ ap (λ c. c ∷ []) (sym (glyph d h))

byte_digits : (b : ℕ) → b < 256 → byte_text b ≡ slice_index lower_digits (b / 16) ∷ slice_index lower_digits (b % 16) ∷ []
byte_digits b h =
    let high : b / 16 < 16 = omega arith in
    let low : b % 16 < 16 = omega arith in
    rw (one_digit (b / 16) high, one_digit (b % 16) low) refl

pub same_digits : (bytes : List ℕ) → ((i : ℕ) → slice_index bytes i < 256) → encode_lower bytes ≡ digest_text bytes
unfolding encode_with
same_digits [] h = refl
same_digits (b ∷ bs) h =
    let first : b < 256 = h 0 in
    rw (byte_digits b first, same_digits bs (λ i. h (suc i))) refl
