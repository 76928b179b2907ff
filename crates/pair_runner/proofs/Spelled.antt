-- A plan that is written out is read again.
use Rattle.std.proofs.Common.{◌≡◌, ℕ, ◌+◌, ◌-◌, ◌*◌, ◌^◌, ◌<◌, ◌≤◌, List, [], ◌∷◌, ◌++◌, append-nil, length, get_or, Bool, true, false, cond, ◌==◌, ◌&&◌, Option, Some, None, Result, Ok, Err, refl, ◌∙◌, ap, arith}
use Rattle.std.specs.Prelude.{nat_le, nat_lt}
use Rattle.std.specs.List.{All, list_all}
use Rattle.std.specs.Fmt.{decimal}
use Rattle.std.proofs.lemmas.Bool.{and_parts, and_from}
use Rattle.std.proofs.lemmas.Fmt.{decimal_nonempty, first_decimal, length-decimal-le}
use Rattle.std.proofs.lemmas.List.{length-append}
use Rattle.std.proofs.lemmas.List.Elements.{All-nil, All-cons, All-head, All-tail}
use Rattle.line_words.specs.Number.{is_digit, number}
use Rattle.line_words.specs.Words.{pieces}
use Rattle.line_words.specs.Lines.{line_text}
use Rattle.line_words.proofs.Texts.{IsWord, is_word_byte, decimal_is, decimal_is_word, fits, number_decimal, pieces_text}
use Rattle.pair_runner.specs.declared.plans.PlanItem.{PlanItem}
use Rattle.pair_runner.specs.Plans.{is_plain, in_range, events_in, is_module, with_events, item_in, line_in, before, items_from, plan_in, plan_text}
use Rattle.pair_runner.specs.Laws.{IsItem, IsPlan}
use Rattle.pair_runner.proofs.Steps.{one_line}

chosen : {X : Type 0} (b : Bool) (x y : X) → b ≡ true → cond b x y ≡ x
chosen true x y h = refl
chosen false x y h = cc

other : {X : Type 0} (b : Bool) (x y : X) → b ≡ false → cond b x y ≡ y
other true x y h = cc
other false x y h = refl

low_digit : (ds : List ℕ) → list_all is_digit ds ≡ true → 0 < length ds → nat_le (get_or ds 0 0) 57 ≡ true
low_digit [] h some = absurd (omega arith)
low_digit (d ∷ ds) h some = (and_parts (nat_le 48 d) (nat_le d 57) (and_parts (is_digit d) (list_all is_digit ds) h).0).1

plain : (k : ℕ) → 1 ≤ k → k < 2 ^ 64 → is_plain (decimal k) ≡ true
plain k some small =
    let long : 0 < length (decimal k) = decimal_nonempty k small in
    let first : 48 < get_or (decimal k) 0 0 = first_decimal k (omega arith) small in
    let a : nat_le 1 (length (decimal k)) ≡ true = grind arith in
    let b : nat_le 49 (get_or (decimal k) 0 0) ≡ true = grind arith in
    let c : nat_le (get_or (decimal k) 0 0) 57 ≡ true = low_digit (decimal k) (decimal_is k small).digits long in
    and_from (nat_le 1 (length (decimal k))) (nat_le 49 (get_or (decimal k) 0 0) && nat_le (get_or (decimal k) 0 0) 57) a (and_from (nat_le 49 (get_or (decimal k) 0 0)) (nat_le (get_or (decimal k) 0 0) 57) b c)

events_read : (k : ℕ) → 1 ≤ k → k ≤ 2 ^ 20 → events_in (decimal k) ≡ Some k
events_read k some most =
    let small : k < 2 ^ 64 = omega arith in
    let a : nat_le 1 k ≡ true = grind arith in
    let b : nat_le k (2 ^ 20) ≡ true = grind arith in
    chosen (is_plain (decimal k)) (in_range (number (decimal k))) None (plain k some small)
    ∙ ap in_range (number_decimal k small)
    ∙ chosen (nat_le 1 k && nat_le k (2 ^ 20)) (Some k) None (and_from (nat_le 1 k) (nat_le k (2 ^ 20)) a b)

-- a line without its newline
abbrev spelled : PlanItem → List ℕ
spelled i = (65 + i.«module») ∷ 32 ∷ decimal i.events

line_read : (modules n : ℕ) (i : PlanItem) → n ≤ 4096 → IsItem modules i → line_in modules n (spelled i) ≡ Some i
line_read modules n i few h =
    let m : ℕ = i.«module» in
    let low : m < modules = h.«module» in
    let a : nat_le n 4096 ≡ true = grind arith in
    let b : nat_le 2 (length (spelled i)) ≡ true = grind arith in
    let c : nat_le 65 (65 + m) ≡ true = grind arith in
    let d : nat_lt (65 + m) (65 + modules) ≡ true = grind (arith, low) in
    let back : (65 + m) - 65 ≡ m = omega arith in
    chosen (nat_le n 4096) (item_in modules (spelled i)) None a
    ∙ chosen (nat_le 2 (length (spelled i)) && (is_module modules (65 + m) && (32 == 32))) (with_events ((65 + m) - 65) (events_in (decimal i.events))) None
    (and_from (nat_le 2 (length (spelled i))) (is_module modules (65 + m) && (32 == 32)) b (and_from (is_module modules (65 + m)) (32 == 32) (and_from (nat_le 65 (65 + m)) (nat_lt (65 + m) (65 + modules)) c d) refl))
    ∙ ap (λ (x : Option ℕ). with_events ((65 + m) - 65) x) (events_read i.events h.some h.most)
    ∙ ap (λ (x : ℕ). with_events x (Some i.events)) back

letter_is_word : (m : ℕ) → m < 8 → IsWord ((65 + m) ∷ [])
letter_is_word m small =
    let a : nat_le 33 (65 + m) ≡ true = grind arith in
    let b : nat_le (65 + m) 126 ≡ true = grind arith in
    record { bytes = and_from (is_word_byte (65 + m)) true (and_from (nat_le 33 (65 + m)) (nat_le (65 + m) 126) a b) refl; some = refl }

number_is_word : (k : ℕ) → k ≤ 2 ^ 20 → All IsWord (decimal k ∷ [])
number_is_word k most =
    let small : fits k ≡ true = grind arith in
    All-cons IsWord (decimal k) [] (decimal_is_word k small) (All-nil IsWord)

cut : (modules : ℕ) (i : PlanItem) (rest : List ℕ) → modules ≤ 8 → IsItem modules i → pieces (line_text ((65 + i.«module») ∷ []) (decimal i.events ∷ []) ++ rest) ≡ spelled i ∷ pieces rest
cut modules i rest few h =
    let low : i.«module» < 8 = omega (arith, few, h.«module») in
    pieces_text ((65 + i.«module») ∷ []) (decimal i.events ∷ []) rest (letter_is_word i.«module» low) (number_is_word i.events h.most)
    ∙ ap (λ (t : List ℕ). ((65 + i.«module») ∷ 32 ∷ t) ∷ pieces rest) (append-nil (decimal i.events))

items_read : (modules n : ℕ) (plan : List PlanItem) → modules ≤ 8 → n + length plan ≤ 4097 → All (IsItem modules) plan → items_from modules n (pieces (plan_text plan)) ≡ Ok plan
items_read modules n [] few lines h = refl
items_read modules n (i ∷ is) few lines h =
    let item : IsItem modules i = All-head (IsItem modules) i is h in
    ap (λ (ps : List (List ℕ)). items_from modules n ps) (cut modules i (plan_text is) few item)
    ∙ one_line modules n (spelled i) (plan_text is)
    ∙ ap (λ (x : Option PlanItem). before n x (items_from modules (n + 1) (pieces (plan_text is)))) (line_read modules n i (omega arith) item)
    ∙ ap (λ (read : Result (List PlanItem) ℕ). before n (Some i) read) (items_read modules (n + 1) is few (omega arith) (All-tail (IsItem modules) i is h))

plan_length : (modules : ℕ) (plan : List PlanItem) → All (IsItem modules) plan → length (plan_text plan) ≤ 10 * length plan
plan_length modules [] h = omega arith
plan_length modules (i ∷ is) h =
    let item : IsItem modules i = All-head (IsItem modules) i is h in
    let one : length (decimal i.events) ≤ 7 = length-decimal-le 7 i.events (omega arith) (omega (arith, item.most)) (omega (arith, item.most)) in
    let more : length (plan_text is) ≤ 10 * length is = plan_length modules is (All-tail (IsItem modules) i is h) in
    simp length-append (omega (arith, one, more))

pub text_read : (modules : ℕ) (plan : List PlanItem) → modules ≤ 8 → IsPlan modules plan → plan_in modules (plan_text plan) ≡ Ok plan
text_read modules plan few h =
    let long : length (plan_text plan) ≤ 10 * length plan = plan_length modules plan h.items in
    let short : length (plan_text plan) ≤ 40960 = omega (arith, long, h.lines) in
    let fits : nat_lt (2 ^ 16) (length (plan_text plan)) ≡ false = grind (arith, short) in
    other (nat_lt (2 ^ 16) (length (plan_text plan))) (Err 0) (items_from modules 1 (pieces (plan_text plan))) fits
    ∙ items_read modules 1 plan few (omega (arith, h.lines)) h.items
