-- Items of one digit, and lines that can be written.
use Rattle.std.proofs.Common.{◌≡◌, ℕ, ◌+◌, ◌-◌, ◌^◌, ◌<◌, ◌≤◌, ◌==◌, List, [], ◌∷◌, length, map, get_or, take, drop, Bool, true, false, not, ltb, Option, Some, None, Ok, Err, refl, ap, arith}
use Rattle.std.specs.Prelude.{is_some, nat_le, nat_lt, ◌&&◌, Result, if◌then◌else◌}
use Rattle.std.specs.List.{list_all, position}
use Rattle.std.proofs.lemmas.List.{take_rest}
use Rattle.line_words.proofs.Pieces.{place_below}
use Rattle.script_text.specs.declared.faults.Reason.{Reason}
use Rattle.script_text.specs.declared.faults.Reason.TheVariants as reason
use Rattle.script_text.specs.declared.schedules.Turns.{Turns}
use Rattle.script_text.specs.Counted.{◌>>=◌}
use Rattle.script_text.specs.Schedule.{item_of, turns_in, with_turns, written_of, IsCutTo, first_reason, schedule_of}

-- the star of an item stands inside its word
pub star_below : (xs : List ℕ) (i : ℕ) → position (λ b. b == 42) xs ≡ Some i → i < length xs
star_below xs i h = place_below 42 xs i h

item_short : (b : ℕ) → 48 ≤ b → b ≤ 57 → item_of (b ∷ []) ≡ Some (record { lp = b - 48; times = 1 })
unfolding item_of
item_short b low high =
    let star : (b == 42) ≡ false = grind arith in
    let below : nat_le 48 b ≡ true = grind arith in
    let above : nat_le b 57 ≡ true = grind arith in
    let ten : nat_lt (b - 48) 10 ≡ true = grind arith in
    let big : ltb (0 + (b - 48)) (2 ^ 64) ≡ true = grind arith in
    let zero : 0 + (b - 48) ≡ b - 48 = omega arith in
    rw (star, below, above, ten, big) (ap (λ n. Some (record { lp = n; times = 1 })) zero)

pub short_turns : (lps b : ℕ) (rest : List ℕ) → 48 ≤ b → b ≤ 57 → b - 48 < lps → IsCutTo lps (b ∷ 32 ∷ rest) (Some (record { lp = b - 48; times = 1 })) rest
short_turns lps b rest low high inside =
    let space : (b == 32) ≡ false = grind arith in
    let e : ltb (b - 48) lps ≡ true = grind arith in
    rw (space, item_short b low high, e) refl

pub short_text : (lps : ℕ) (text : List ℕ) → 2 ≤ length text → get_or text 1 0 ≡ 32 → 48 ≤ get_or text 0 0 → get_or text 0 0 ≤ 57 → get_or text 0 0 - 48 < lps
    → IsCutTo lps text (Some (record { lp = get_or text 0 0 - 48; times = 1 })) (take (length text - 2) (drop 2 text))
short_text lps [] two second low high inside = absurd (omega arith)
short_text lps (b ∷ []) two second low high inside = absurd (omega arith)
short_text lps (b ∷ c ∷ rest) two second low high inside =
    let e : c ≡ 32 = second in
    rw (take_rest (b ∷ c ∷ rest) 2, e) (short_turns lps b rest low high inside)

abbrev AreInRange : ℕ → List (List ℕ) → Type 0
AreInRange lps ws = list_all (λ w. is_some (turns_in lps w)) ws ≡ true

-- wherever these words can be written they are in range
abbrev WrittenAreIn : ℕ → List (List ℕ) → Type 0
WrittenAreIn lps ws = (s new : List ℕ) → written_of s (map (turns_in lps) ws) ≡ Ok new → AreInRange lps ws

after : (lps : ℕ) (ws : List (List ℕ)) (new : List ℕ) (r : Result (List ℕ) Reason) → WrittenAreIn lps ws
    → (r >>= (λ s. written_of s (map (turns_in lps) ws))) ≡ Ok new → AreInRange lps ws
after lps ws new (Ok s) ih h = ih s new h
after lps ws new (Err e) ih h = cc

range-on : (lps : ℕ) (t : Option Turns) (ws : List (List ℕ)) (s new : List ℕ) → WrittenAreIn lps ws
    → written_of s (t ∷ map (turns_in lps) ws) ≡ Ok new → (is_some t && list_all (λ w. is_some (turns_in lps w)) ws) ≡ true
range-on lps None ws s new ih h = cc
range-on lps (Some t) ws s new ih h = after lps ws new (with_turns s t) ih h

pub written_are_in_range : (lps : ℕ) (ws : List (List ℕ)) → WrittenAreIn lps ws
written_are_in_range lps [] s new h = refl
written_are_in_range lps (w ∷ ws) s new h = range-on lps (turns_in lps w) ws s new (written_are_in_range lps ws) h

chosen : (a b : Bool) (r : Reason) (s : Result (List ℕ) Reason) → s ≡ Err r → (if a then Err reason.Number else if b then Err reason.Range else s) ≡ Err (if a then reason.Number else if b then reason.Range else r)
chosen true b r s h = refl
chosen false true r s h = refl
chosen false false r s h = h

pub faulty : (lps : ℕ) (s : List ℕ) (ws : List (List ℕ)) (r : Reason) → (length ws == 0) ≡ false → written_of s (map (turns_in lps) ws) ≡ Err r
    → schedule_of lps s ws ≡ Err (first_reason lps ws r)
unfolding schedule_of
faulty lps s ws r some h = rw some (chosen (not (list_all (λ w. is_some (item_of w)) ws)) (not (list_all (λ w. is_some (turns_in lps w)) ws)) r (written_of s (map (turns_in lps) ws)) h)
