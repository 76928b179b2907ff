-- The room of a reply's line: how long its numbers are, and what stands behind bytes that were put into it.
use Rattle.std.proofs.Common.{◌≡◌, ℕ, ◌+◌, ◌^◌, ◌<◌, ◌≤◌, List, ◌++◌, drop, take, length, drop-drop, ap, sym, ◌∙◌, arith, rules}
use Rattle.std.specs.Fmt.{decimal}
use borrow.Rule.Slice.PartMut.{put_mid}
use Rattle.std.proofs.lemmas.Fmt.{length-decimal-le}
use Rattle.std.proofs.lemmas.List.{length-take-le}
use Rattle.std.proofs.lemmas.Slice.{overwrites}
use Rattle.std.proofs.Math.Seq.{drop-append_seam}

-- a processor's number
pub few_digits : (n : ℕ) → n < 256 → length (decimal n) ≤ 3
few_digits n h = length-decimal-le 3 n (omega arith) (omega (arith, h)) (omega arith)

-- any word
pub most_digits : (n : ℕ) → n < 2 ^ 64 → length (decimal n) ≤ 20
most_digits n h = length-decimal-le 20 n (omega arith) (omega arith) h

pub drop_mid : (a k e : ℕ) (xs ys : List ℕ) → e ≡ a + k → a ≤ length xs → drop a (put_mid a k xs ys) ≡ ys ++ drop e xs
drop_mid a k e xs ys is h =
    ap (λ n. drop n (put_mid a k xs ys)) (sym (length-take-le a xs h))
    ∙ drop-append_seam (take a xs) (ys ++ drop k (drop a xs))
    ∙ ap (λ l. ys ++ l) (drop-drop k a xs ∙ ap (λ n. drop n xs) (sym is))

pub long_mid : (a k : ℕ) (xs ys : List ℕ) → length ys ≡ k → a + k ≤ length xs → length (put_mid a k xs ys) ≡ length xs
long_mid a k xs ys = search (rules, overwrites)
