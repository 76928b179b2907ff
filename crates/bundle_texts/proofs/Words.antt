-- The bytes of words, one word after another.
use Rattle.std.proofs.Common.{◌≡◌, ◌∙◌, ◌+◌, ◌<◌, ℕ, zero, suc, List, [], ◌∷◌, ◌++◌, length, take, get_or, sym, ap, arith, append_assoc}
use Rattle.std.specs.Int.{w64, to_le_bytes}
use Rattle.std.proofs.lemmas.List.{append-nil}
use Rattle.flat_core.specs.Digests.{digest_bytes as word_bytes}

word_bytes-more : (ws : List ℕ) (i : ℕ) (d : ℕ) → i < length ws → word_bytes (take (i + 1) ws) ≡ word_bytes (take i ws) ++ to_le_bytes w64 (get_or ws i d)
word_bytes-more [] i d h = absurd (omega arith)
word_bytes-more (w ∷ ws) zero d h = append-nil (to_le_bytes w64 w)
word_bytes-more (w ∷ ws) (suc i) d h =
    let here : suc i + 1 ≡ suc (i + 1) = omega arith in
    ap (λ (n : ℕ). word_bytes (take n (w ∷ ws))) here
    ∙ ap (λ (l : List ℕ). to_le_bytes w64 w ++ l) (word_bytes-more ws i d (omega arith))
    ∙ sym (append_assoc (to_le_bytes w64 w) (word_bytes (take i ws)) (to_le_bytes w64 (get_or ws i d)))

-- one word more
pub words_more : (out new bytes ws : List ℕ) (i : ℕ) → i < length ws → new ≡ out ++ bytes → bytes ≡ to_le_bytes w64 (get_or ws i 0)
    → out ≡ word_bytes (take i ws) → new ≡ word_bytes (take (i + 1) ws)
words_more out new bytes ws i h made here before = made ∙ (λ j. before j ++ here j) ∙ sym (word_bytes-more ws i 0 h)
