-- The words of bytes are those that the bytes were written of.
use Rattle.std.proofs.Common.{◌≡◌, ◌∙◌, ◌+◌, ◌*◌, ◌/◌, ◌^◌, ◌<◌, ℕ, zero, suc, List, [], ◌∷◌, length, map, drop, get_or, All, ap, sym, arith}
use Rattle.std.specs.List.{range_with_len}
use Rattle.std.proofs.lemmas.List.{ext_get_or, drop-drop}
use Rattle.std.proofs.lemmas.List.FromFn.{length-map-range_with_len, get_or-map-range_with_len}
use Rattle.std.proofs.lemmas.List.Elements.{All-head, All-tail}
use Rattle.byteorder.specs.Endian.{little_number, IsRead}
use Rattle.byteorder.specs.Numbers.{little_number-reads_back}
use Rattle.flat_core.specs.Digests.{digest_bytes as word_bytes}
use Rattle.bundle_texts.proofs.Sizes.{length-word_bytes}
use Rattle.incoming.specs.Opened.{words_in}

abbrev IsWord : ℕ → Type 0
IsWord w = w < 2 ^ 64

abbrev word : List ℕ → ℕ → ℕ
word bytes k = little_number 8 (drop (8 * k) bytes)

word-at : (ws : List ℕ) (i : ℕ) → All IsWord ws → i < length ws → word (word_bytes ws) i ≡ get_or ws i 0
word-at [] i small h = absurd (omega arith)
word-at (w ∷ ws) zero small h = little_number-reads_back 8 w (word_bytes ws) (omega (arith, All-head IsWord w ws small))
word-at (w ∷ ws) (suc i) small h =
    let place : 8 * suc i ≡ 8 + 8 * i = omega arith in
    let past : drop (8 * suc i) (word_bytes (w ∷ ws)) ≡ drop (8 * i) (word_bytes ws) =
    ap (λ (n : ℕ). drop n (word_bytes (w ∷ ws))) place ∙ sym (drop-drop (8 * i) 8 (word_bytes (w ∷ ws))) in
    ap (little_number 8) past ∙ word-at ws i (All-tail IsWord w ws small) (omega arith)

pub words-back : (ws : List ℕ) → All IsWord ws → words_in (word_bytes ws) ≡ ws
words-back ws small =
    let count : length (word_bytes ws) / 8 ≡ length ws = omega (arith, length-word_bytes ws) in
    ap (λ (n : ℕ). map (word (word_bytes ws)) (range_with_len 0 n)) count
    ∙ ext_get_or 0 (map (word (word_bytes ws)) (range_with_len 0 (length ws))) ws (length-map-range_with_len (word (word_bytes ws)) 0 (length ws))
    (λ i h. let inside : i < length ws = omega (arith, length-map-range_with_len (word (word_bytes ws)) 0 (length ws)) in
    get_or-map-range_with_len (word (word_bytes ws)) 0 (length ws) i i 0 inside (omega arith) ∙ word-at ws i small inside)

-- words that were read of bytes, one by one, are theirs
pub words-read : (bytes words : List ℕ) → length words ≡ length bytes / 8 → IsRead little_number 8 bytes words → words ≡ words_in bytes
words-read bytes words long read =
    let f : ℕ → ℕ = word bytes in
    let n : ℕ = length bytes / 8 in
    ext_get_or 0 words (map f (range_with_len 0 n)) (long ∙ sym (length-map-range_with_len f 0 n))
    (λ i h. read i h ∙ sym (get_or-map-range_with_len f 0 n i i 0 (omega (arith, long)) (omega arith)))
