-- A schedule that is written out with one item for each turn.
use Rattle.std.proofs.Common.{◌≡◌, ℕ, ◌+◌, ◌^◌, ◌<◌, ◌≤◌, List, [], ◌∷◌, ◌++◌, length, map, Bool, true, false, not, ltb, ◌==◌, Some, None, Ok, refl, ap, ◌∙◌, arith}
use Rattle.std.specs.Prelude.{is_some}
use Rattle.std.specs.List.{list_all, All, position, position_or_len}
use Rattle.std.specs.Fmt.{decimal}
use Rattle.std.proofs.lemmas.Bool.{and_parts, not-true}
use Rattle.std.proofs.lemmas.List.{length-append, append_assoc, append-nil}
use Rattle.std.proofs.lemmas.List.Elements.{All-head, All-tail}
use Rattle.line_words.specs.Number.{is_digit}
use Rattle.line_words.proofs.Texts.{decimal_is, number_decimal, implied}
use Rattle.script_text.specs.Schedule.{item_of, turns_in, written_of, schedule_of}

-- a number has no star
all_before : (p : ℕ → Bool) (w : List ℕ) → list_all (λ b. not (p b)) w ≡ true → position_or_len p w ≡ length w
all_before p [] h = refl
all_before p (x ∷ w) h =
    let e = and_parts (not (p x)) (list_all (λ b. not (p b)) w) h in
    rw (not-true (p x) e.0, all_before p w e.1) (omega arith)

not_found : (p : ℕ → Bool) (w : List ℕ) → list_all (λ b. not (p b)) w ≡ true → position p w ≡ None
not_found p w h =
    let e : ltb (position_or_len p w) (length w) ≡ false = rw (all_before p w h) (grind arith) in
    rw e refl

starless : (b : ℕ) → is_digit b ≡ true → not (b == 42) ≡ true
starless b h = grind arith

item_decimal : (n : ℕ) → n < 2 ^ 64 → item_of (decimal n) ≡ Some (record { lp = n; times = 1 })
unfolding item_of
item_decimal n h = rw (not_found (λ b. b == 42) (decimal n) (implied is_digit (λ b. not (b == 42)) starless (decimal n) (decimal_is n h).digits), number_decimal n h) refl

turn_decimal : (lps n : ℕ) → n < lps → lps ≤ 8 → turns_in lps (decimal n) ≡ Some (record { lp = n; times = 1 })
turn_decimal lps n h few =
    let e : ltb n lps ≡ true = grind arith in
    rw (item_decimal n (omega arith), e) refl

-- the tests of a line pass
are_items : (lps : ℕ) (ns : List ℕ) → lps ≤ 8 → All (λ lp. lp < lps) ns → list_all (λ w. is_some (item_of w)) (map decimal ns) ≡ true
are_items lps [] few h = refl
are_items lps (n ∷ ns) few h =
    let small : n < lps = All-head (λ lp. lp < lps) n ns h in
    rw (item_decimal n (omega arith), are_items lps ns few (All-tail (λ lp. lp < lps) n ns h)) refl

are_turns : (lps : ℕ) (ns : List ℕ) → lps ≤ 8 → All (λ lp. lp < lps) ns → list_all (λ w. is_some (turns_in lps w)) (map decimal ns) ≡ true
are_turns lps [] few h = refl
are_turns lps (n ∷ ns) few h =
    rw (turn_decimal lps n (All-head (λ lp. lp < lps) n ns h) few, are_turns lps ns few (All-tail (λ lp. lp < lps) n ns h)) refl

all_written : (lps : ℕ) (ns schedule : List ℕ) → lps ≤ 8 → All (λ lp. lp < lps) ns → length schedule + length ns ≤ 2 ^ 20 → written_of schedule (map (turns_in lps) (map decimal ns)) ≡ Ok (schedule ++ ns)
all_written lps [] schedule few h room = rw append-nil refl
all_written lps (n ∷ ns) schedule few h room =
    let e : ltb (2 ^ 20) (length schedule + 1) ≡ false = grind arith in
    rw (turn_decimal lps n (All-head (λ lp. lp < lps) n ns h) few, e)
    (all_written lps ns (schedule ++ n ∷ []) few (All-tail (λ lp. lp < lps) n ns h) (simp length-append (omega arith)) ∙ ap Ok (append_assoc schedule (n ∷ []) ns))

pub items_read : (lps n : ℕ) (ns : List ℕ) → lps ≤ 8 → All (λ lp. lp < lps) (n ∷ ns) → length (n ∷ ns) ≤ 2 ^ 20 → schedule_of lps [] (map decimal (n ∷ ns)) ≡ Ok (n ∷ ns)
unfolding schedule_of
items_read lps n ns few h room =
    let some : (length (map decimal (n ∷ ns)) == 0) ≡ false = grind arith in
    rw (some, are_items lps (n ∷ ns) few h, are_turns lps (n ∷ ns) few h) (all_written lps (n ∷ ns) [] few h (omega arith))
