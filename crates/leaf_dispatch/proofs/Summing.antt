-- Sums over calls, one call after another.
use Rattle.std.proofs.Common.{◌≡◌, ◌∙◌, ℕ, zero, suc, ◌+◌, ◌<◌, ◌≤◌, List, [], ◌∷◌, ◌++◌, length, take, ap, arith}
use Rattle.std.proofs.Math.Seq.{take-suc}
use Rattle.std.proofs.Common.{get_or}
use Rattle.td_words.specs.declared.calls.Call.{Call}
use Rattle.leaf_dispatch.specs.NoteRooms.{lines_sum}

sum-behind : (room : Call → ℕ) (cs : List Call) (c : Call) → lines_sum room (cs ++ c ∷ []) ≡ lines_sum room cs + room c
sum-behind room [] c = omega arith
sum-behind room (x ∷ cs) c = (let rest = sum-behind room cs c in omega (arith, rest))

pub sum-more : (room : Call → ℕ) (i sum more : ℕ) (cs : List Call) (d : Call) → i < length cs → sum ≡ lines_sum room (take i cs) → more ≡ sum + room (get_or cs i d) → more ≡ lines_sum room (take (i + 1) cs)
sum-more room i sum more cs d inside before is =
    let next : i + 1 ≡ suc i = omega arith in
    let same : lines_sum room (take (i + 1) cs) ≡ lines_sum room (take i cs) + room (get_or cs i d) =
    ap (λ (k : ℕ). lines_sum room (take k cs)) next ∙ (ap (lines_sum room) (take-suc cs i d inside) ∙ sum-behind room (take i cs) (get_or cs i d)) in
    omega (arith, before, is, same)

-- that of the first of them is no more than that of all
pub sum-first : (room : Call → ℕ) (n : ℕ) (cs : List Call) → lines_sum room (take n cs) ≤ lines_sum room cs
sum-first room zero cs = omega arith
sum-first room (suc n) [] = omega arith
sum-first room (suc n) (x ∷ cs) = (let rest = sum-first room n cs in omega (arith, rest))
