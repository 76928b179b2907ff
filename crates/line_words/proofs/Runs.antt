-- Sixteen bytes that are tested at once.
use Rattle.std.proofs.Common.{◌≡◌, ℕ, ◌+◌, ◌%◌, ◌^◌, ◌<◌, ◌≤◌, List, length, map, replicate, get_or, Bool, true, false, cond, not, ltb, w8, ap, sym, ◌∙◌, arith}
use lib.Count.{count_trailing_zeros}
use lib.Lanes.{chunk, zip2, mask_l, top}
use Rattle.std.specs.List.{prefix_len}
use Rattle.std.proofs.lemmas.List.{length-map}
use Rattle.std.proofs.lemmas.Simd.{length-chunk, map-map, zip2_splat, zip2_splat_left, tops_compared, mask_l-mod, leading_from_mask_l, trailing_mask_l, run_in_chunk_le, run_in_chunk_fails, run_in_chunk_stops}
use Rattle.line_words.specs.Words.{is_printable_byte}

-- a byte that isn't printable lies outside the 95 from the space on
abbrev other : ℕ → Bool
other b = ltb 94 ((b + 224) % 2 ^ 8)

printable_from : (b : ℕ) → b < 256 → other b ≡ false → is_printable_byte b ≡ true
printable_from b small h =
    let most : (b + 224) % 256 ≤ 94 = grind (arith, h) in
    let low : 32 ≤ b = omega (arith, most, small) in
    let high : b ≤ 126 = omega (arith, most, small) in
    grind (arith, low, high)

unprintable_from : (b : ℕ) → b < 256 → other b ≡ true → is_printable_byte b ≡ false
unprintable_from b small h =
    let least : 94 < (b + 224) % 256 = grind (arith, h) in
    grind (arith, least, small)

-- the mask that the code makes of sixteen bytes
abbrev pub mask_of : List ℕ → ℕ
mask_of xs = mask_l (map (top 7) (zip2 (λ a b. cond (ltb a b) 255 0) (replicate 16 94) (zip2 (λ a b. (a + b) % 2 ^ 8) xs (replicate 16 224)))) % 2 ^ 64

others_are : (xs : List ℕ) → length xs ≡ 16 → mask_of xs ≡ mask_l (map other xs)
others_are xs long =
    let moved : ℕ → ℕ = λ b. (b + 224) % 2 ^ 8 in
    let many : length (map moved xs) ≡ 16 = length-map xs moved ∙ long in
    ap (λ ms. mask_l ms % 2 ^ 64)
    (tops_compared w8 ltb (replicate 16 94) (zip2 (λ a b. (a + b) % 2 ^ 8) xs (replicate 16 224))
    ∙ ap (λ (v : List ℕ). zip2 ltb (replicate 16 94) v) (zip2_splat (λ a b. (a + b) % 2 ^ 8) xs 16 224 long)
    ∙ zip2_splat_left ltb 94 16 (map moved xs) many
    ∙ map-map (λ b. ltb 94 b) moved xs)
    ∙ mask_l-mod (map other xs) 64 (omega (arith, length-map xs other, long))

-- how many bytes of sixteen stand before the first other one
abbrev run_at : List ℕ → ℕ → ℕ
run_at xs from = prefix_len (λ b. not (other b)) (chunk from 16 xs)

pub whole_run : (xs : List ℕ) (from : ℕ) → from + 16 ≤ length xs → mask_of (chunk from 16 xs) ≡ 0 → 16 ≡ run_at xs from
whole_run xs from room h =
    let long : length (chunk from 16 xs) ≡ 16 = length-chunk from 16 xs room in
    sym (leading_from_mask_l other (chunk from 16 xs) (sym (others_are (chunk from 16 xs) long) ∙ h) ∙ long)

pub part_run : (xs : List ℕ) (from : ℕ) → from + 16 ≤ length xs → 0 < mask_of (chunk from 16 xs) → count_trailing_zeros 64 (mask_of (chunk from 16 xs)) ≡ run_at xs from
part_run xs from room h =
    let long : length (chunk from 16 xs) ≡ 16 = length-chunk from 16 xs room in
    let is = others_are (chunk from 16 xs) long in
    ap (λ (m : ℕ). count_trailing_zeros 64 m) is ∙ trailing_mask_l other 64 (chunk from 16 xs) (omega (arith, long)) (omega (arith, h, is))

pub run_most : (xs : List ℕ) (from r : ℕ) → from + 16 ≤ length xs → r ≡ run_at xs from → r ≤ 16
run_most xs from r room h = run_in_chunk_le other xs from 16 r 0 room h

pub run_before : (xs : List ℕ) (from r : ℕ) → ((k : ℕ) → get_or xs k 0 < 256) → from + 16 ≤ length xs → r ≡ run_at xs from → (k : ℕ) → from ≤ k → k < from + r → is_printable_byte (get_or xs k 0) ≡ true
run_before xs from r small room h k least below = printable_from (get_or xs k 0) (small k) (run_in_chunk_fails other xs from 16 r 0 room h k least below)

pub run_here : (xs : List ℕ) (from r : ℕ) → ((k : ℕ) → get_or xs k 0 < 256) → from + 16 ≤ length xs → r ≡ run_at xs from → r < 16 → is_printable_byte (get_or xs (from + r) 0) ≡ false
run_here xs from r small room h few = unprintable_from (get_or xs (from + r) 0) (small (from + r)) (run_in_chunk_stops other xs from 16 r 0 room h few)
