-- Blocks at the epoch before TD_EPOCH are tracked where nobody in guest entered at it, and those before always are.
use Rattle.std.proofs.Common.{◌≡◌, refl, ℕ, suc, ◌-◌, ◌+◌, ◌<◌, ◌≤◌, List, [], ◌∷◌, Bool, true, false, cond, ◌==◌, ◌&&◌, nat_lt, arith}
use Rattle.std.specs.List.{All, list_all}
use Rattle.std.proofs.lemmas.List.Elements.{All-head, All-tail}
use Rattle.std.proofs.lemmas.List.Sums.{sum_by-cons}
use Rattle.std.proofs.lemmas.Bool.Decides.{nat_tests}
use Rattle.flat_core.specs.Tracking.{tracked}
use Rattle.tlb_epochs.specs.Epochs.{IsNear, entered_before}

above : (blocked epoch x : ℕ) → IsNear epoch x → suc blocked < epoch → nat_lt blocked x ≡ true
above blocked epoch x near far = grind (arith, nat_tests)

all_above : (blocked epoch : ℕ) → suc blocked < epoch → (es : List ℕ) → All (IsNear epoch) es → list_all (λ e. nat_lt blocked e) es ≡ true
all_above blocked epoch far [] near = refl
all_above blocked epoch far (x ∷ xs) near =
    rw (above blocked epoch x (All-head (IsNear epoch) x xs near) far) (all_above blocked epoch far xs (All-tail (IsNear epoch) x xs near))

-- one that is near, by whether it is of the epoch before
with_one : (b : Bool) (n : ℕ) (rest : Bool) → rest ≡ (n == 0) → (cond b false true && rest) ≡ (cond b 1 0 + n == 0)
with_one true n rest e = grind (arith, nat_tests)
with_one false n rest e = grind (arith, nat_tests)

before : (epoch x : ℕ) → 0 < epoch → IsNear epoch x → nat_lt (epoch - 1) x ≡ cond (x == epoch - 1) false true
before epoch x some near = grind (arith, nat_tests)

count_of : (epoch x : ℕ) (xs : List ℕ) → entered_before epoch (x ∷ xs) ≡ cond (x == epoch - 1) 1 0 + entered_before epoch xs
count_of epoch x xs = sum_by-cons (λ e. cond (e == epoch - 1) 1 0) x xs

none_before : (epoch : ℕ) → 0 < epoch → (es : List ℕ) → All (IsNear epoch) es
    → list_all (λ e. nat_lt (epoch - 1) e) es ≡ (entered_before epoch es == 0)
none_before epoch some [] near = refl
none_before epoch some (x ∷ xs) near =
    rw (before epoch x some (All-head (IsNear epoch) x xs near), count_of epoch x xs)
    (with_one (x == epoch - 1) (entered_before epoch xs) _ (none_before epoch some xs (All-tail (IsNear epoch) x xs near)))

pub far : (blocked epoch : ℕ) → blocked < epoch → (1 < epoch - blocked) → (es : List ℕ) → All (IsNear epoch) es → true ≡ tracked blocked epoch es
far blocked epoch below wide es all =
    let first : nat_lt blocked epoch ≡ true = grind (arith, nat_tests) in
    let others : list_all (λ e. nat_lt blocked e) es ≡ true = all_above blocked epoch (omega arith) es all in
    rw (first, others) refl

pub next_to : (blocked epoch count : ℕ) → blocked < epoch → epoch - blocked ≤ 1 → (es : List ℕ) → All (IsNear epoch) es → entered_before epoch es ≡ count
    → (count == 0) ≡ tracked blocked epoch es
next_to blocked epoch count below close es all told =
    let first : nat_lt blocked epoch ≡ true = grind (arith, nat_tests) in
    let last : blocked ≡ epoch - 1 = omega arith in
    let others : list_all (λ e. nat_lt (epoch - 1) e) es ≡ (entered_before epoch es == 0) = none_before epoch (omega arith) es all in
    rw (first, last, others, told) refl
