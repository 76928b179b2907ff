use Rattle.std.proofs.Common.{◌≡◌, ◌≤◌, ◌-◌, true, Some, length, take}
use Rattle.std.specs.List.{list_all}
use Rattle.line_words.specs.Number.{is_digit, number_on}
use Rattle.line_words.proofs.numbers.digits_front.Given as goal

-- the bytes so far are digits, and their number is the value
abbrev pub invariant-loop-at : goal.invariant-loop-at
invariant-loop-at l = record {
  inside : l.at ≤ length l.text;
  digits : list_all is_digit (take l.at l.text) ≡ true;
  value : number_on 10 0 (take l.at l.text) ≡ Some l.value;
}

abbrev pub decreases-loop-at : goal.decreases-loop-at
decreases-loop-at l = length l.text - l.at
