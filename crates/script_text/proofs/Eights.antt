-- Items of one digit that are written several at once.
use Rattle.std.proofs.Common.{◌≡◌, ℕ, ◌+◌, ◌-◌, ◌*◌, ◌^◌, ◌<◌, ◌≤◌, suc, List, [], ◌∷◌, ◌++◌, length, map, get_or, drop, ltb, false, Option, Some, refl, ap, sym, ◌∙◌, arith}
use Rattle.std.proofs.lemmas.List.{length-append, append_assoc, append-nil}
use Rattle.line_words.specs.Words.{words}
use Rattle.script_text.specs.declared.schedules.Turns.{Turns}
use Rattle.script_text.specs.Schedule.{turns_in, written_of, IsCutTo, AreCutTo}
use Rattle.script_text.proofs.Short.{short_turns}

abbrev once : ℕ → Option Turns
once lp = Some (record { lp = lp; times = 1 })

-- the digit of an item stands at an even place, and a space behind it
pub record IsItemAt (lps : ℕ) (text items : List ℕ) (k : ℕ) : Type 0 where
  pub below : get_or items k 0 < lps
  pub small : get_or items k 0 < 10
  pub digit : get_or text (2 * k) 0 ≡ 48 + get_or items k 0
  pub space : get_or text (2 * k + 1) 0 ≡ 32

next_item : (lps b c x k : ℕ) (rest items : List ℕ) → IsItemAt lps (b ∷ c ∷ rest) (x ∷ items) (k + 1) → IsItemAt lps rest items k
next_item lps b c x k rest items h =
    let even : 2 * (k + 1) ≡ suc (suc (2 * k)) = omega arith in
    let odd : 2 * (k + 1) + 1 ≡ suc (suc (2 * k + 1)) = omega arith in
    let one : k + 1 ≡ suc k = omega arith in
    record {
      below = rw one at h.below;
      small = rw one at h.small;
      digit = rw (even, one) at h.digit;
      space = rw odd at h.space;
    }

pub items_cut : (lps : ℕ) (text items : List ℕ) → 2 * length items ≤ length text → ((k : ℕ) → k < length items → IsItemAt lps text items k) → AreCutTo lps text items (drop (2 * length items) text)
items_cut lps text [] room h = refl
items_cut lps [] (x ∷ items) room h = absurd (omega arith)
items_cut lps (b ∷ []) (x ∷ items) room h = absurd (omega arith)
items_cut lps (b ∷ c ∷ rest) (x ∷ items) room h =
    let first : IsItemAt lps (b ∷ c ∷ rest) (x ∷ items) 0 = h 0 (omega arith) in
    let digit : b ≡ 48 + x = first.digit in
    let space : c ≡ 32 = first.space in
    let below : x < lps = first.below in
    let small : x < 10 = first.small in
    let is : b - 48 ≡ x = omega (arith, digit) in
    let size : 2 * length (x ∷ items) ≡ suc (suc (2 * length items)) = omega arith in
    let more : AreCutTo lps rest items (drop (2 * length items) rest) =
    items_cut lps rest items (omega (arith, room)) (λ k l. next_item lps b c x k rest items (h (k + 1) (omega (arith, l)))) in
    let one : IsCutTo lps (b ∷ 32 ∷ rest) (once (b - 48)) rest = short_turns lps b rest (omega (arith, digit)) (omega (arith, digit, small)) (omega (arith, is, below)) in
    rw (size, space, one, is) (ap (λ (turns : List (Option Turns)). once x ∷ turns) more)

pub eight_cut : (lps : ℕ) (text items : List ℕ) → 16 ≤ length text → length items ≡ 8 → ((k : ℕ) → k < 8 → IsItemAt lps text items k) → AreCutTo lps text items (drop 16 text)
eight_cut lps text items room long h =
    let size : 2 * length items ≡ 16 = omega (arith, long) in
    rw size at (items_cut lps text items (omega (arith, room, long)) (λ k l. h k (omega (arith, l, long))))

-- such items are written where there is room
pub written_on : (schedule items : List ℕ) (more : List (Option Turns)) → length schedule + length items ≤ 2 ^ 20 → written_of schedule (map once items ++ more) ≡ written_of (schedule ++ items) more
written_on schedule [] more room = rw append-nil refl
written_on schedule (x ∷ items) more room =
    let fits : ltb (2 ^ 20) (length schedule + 1) ≡ false = grind (arith, room) in
    rw fits
    (written_on (schedule ++ x ∷ []) items more (simp length-append (omega (arith, room))) ∙ ap (λ (s : List ℕ). written_of s more) (append_assoc schedule (x ∷ []) items))

pub eights_written : (lps : ℕ) (old new text items : List ℕ) (more : List ℕ) → AreCutTo lps text items more → length old + length items ≤ 2 ^ 20 → new ≡ old ++ items
    → written_of new (map (turns_in lps) (words more)) ≡ written_of old (map (turns_in lps) (words text))
eights_written lps old new text items more cut room is =
    rw (is, cut) (sym (written_on old items (map (turns_in lps) (words more)) room))
