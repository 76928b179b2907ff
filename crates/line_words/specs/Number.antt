-- How a number is written: decimal digits, or `0x` and hexadecimal digits of either case; at most 2 ^ 64 - 1.
use Rattle.std.specs.Prelude.{ℕ, ◌+◌, ◌-◌, ◌*◌, ◌^◌, Bool, List, [], ◌∷◌, Option, Some, None, nat_lt, nat_le, ◌==◌, ◌&&◌, length, drop, slice_index, if◌then◌else◌}

-- a digit's value; 99 where the byte is no digit
abbrev pub digit : ℕ → ℕ
digit c =
    if nat_le 48 c && nat_le c 57 then c - 48
    else if nat_le 97 c && nat_le c 102 then c - 87
    else if nat_le 65 c && nat_le c 70 then c - 55
    else 99

abbrev pub is_digit : ℕ → Bool
is_digit b = nat_le 48 b && nat_le b 57

-- the number so far, and the digits that follow
abbrev pub number_on : ℕ → ℕ → List ℕ → Option ℕ
number_on base n [] = Some n
number_on base n (c ∷ cs) =
    if nat_lt (digit c) base && nat_lt (n * base + digit c) (2 ^ 64) then number_on base (n * base + digit c) cs else None

-- at least one digit
abbrev pub digits_in : ℕ → List ℕ → Option ℕ
digits_in base [] = None
digits_in base (c ∷ cs) = number_on base 0 (c ∷ cs)

-- `0x`
abbrev pub is_prefixed : List ℕ → Bool
is_prefixed word = nat_le 2 (length word) && slice_index word 0 == 48 && slice_index word 1 == 120

abbrev pub number : List ℕ → Option ℕ
number word = if is_prefixed word then digits_in 16 (drop 2 word) else digits_in 10 word
