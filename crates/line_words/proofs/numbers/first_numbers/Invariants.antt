use Rattle.std.proofs.Common.{◌≡◌, ◌++◌, length, map, take}
use Rattle.line_words.specs.Number.{number}
use Rattle.line_words.specs.Words.{words}
use Rattle.line_words.proofs.numbers.first_numbers.Given as goal

-- the numbers so far, and those of the words that are left
abbrev pub invariant-loop-place : goal.invariant-loop-place
invariant-loop-place l = record {
  same : length l.numbers ≡ length l.initial.numbers;
  numbers : map number (words l.text) ≡ take l.place l.numbers ++ map number (words l.rest);
}
