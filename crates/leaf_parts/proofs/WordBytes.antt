-- The bytes of words, one word after another.
use Rattle.std.proofs.Common.{rules, ◌≡◌, ℕ, ◌+◌, ◌*◌, ◌<◌, List, [], ◌∷◌, ◌++◌, length, take, get_or, refl, ap, sym, ◌∙◌, arith}
use native.Mathlib.Numerals.{unary_clauses}
use Rattle.std.specs.Int.{w64, to_le_bytes}
use Rattle.std.proofs.Math.Seq.{take-suc}
use Rattle.std.proofs.lemmas.List.{take_all}
use Rattle.std.proofs.lemmas.Slice.{take-put_mid, overwrites}
use borrow.Rule.Slice.PartMut.{put_mid}
use Rattle.flat_core.specs.Digests.{digest_bytes}

pub bytes-more : (xs : List ℕ) (x : ℕ) → digest_bytes (xs ++ x ∷ []) ≡ digest_bytes xs ++ to_le_bytes w64 x
bytes-more [] x = refl
bytes-more (y ∷ ys) x = rw (bytes-more ys x) refl

pub bytes-next : (bytes words ys : List ℕ) (i k : ℕ) → take (8 * i) bytes ≡ digest_bytes (take i words) → length bytes ≡ 8 * length words → i < length words → ys ≡ to_le_bytes w64 (get_or words i 0)
    → take (8 * (i + 1)) (put_mid (8 * i) k bytes ys) ≡ digest_bytes (take (i + 1) words)
bytes-next bytes words ys i k h long small is =
    let part : take (8 * (i + 1)) (put_mid (8 * i) k bytes ys) ≡ take (8 * i) bytes ++ ys = take-put_mid (8 * i) k bytes ys (8 * (i + 1)) (rw is (omega arith)) (omega (arith, long, small)) in
    let more : take (i + 1) words ≡ take i words ++ (get_or words i 0 ∷ []) = simp unary_clauses (take-suc words i 0 small) in
    part ∙ rw (h, is, more) (sym (bytes-more (take i words) (get_or words i 0)))

pub bytes-put : (bytes words ys : List ℕ) (i k : ℕ) → length bytes ≡ 8 * length words → i < length words → k ≡ 8 → length ys ≡ 8 → length (put_mid (8 * i) k bytes ys) ≡ 8 * length words
bytes-put bytes words ys i k long small size eight = search (rules, overwrites)

pub bytes-whole : (bytes words : List ℕ) (i : ℕ) → take (8 * i) bytes ≡ digest_bytes (take i words) → length bytes ≡ 8 * length words → i ≡ length words → bytes ≡ digest_bytes words
bytes-whole bytes words i h long all =
    let a : take (8 * i) bytes ≡ bytes = take_all (8 * i) bytes (omega (arith, long, all)) in
    let b : take i words ≡ words = take_all i words (omega (arith, all)) in
    sym a ∙ (h ∙ ap digest_bytes b)
