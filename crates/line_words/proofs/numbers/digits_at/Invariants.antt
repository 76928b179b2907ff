use Rattle.std.proofs.Common.{◌≡◌, drop}
use Rattle.line_words.specs.Number.{number_on}
use Rattle.line_words.proofs.numbers.digits_at.Given as goal

-- the digits that are left go on with the number so far
abbrev pub invariant-loop-byte : goal.invariant-loop-byte
invariant-loop-byte l = number_on l.base l.value (drop l.byte-index l.word) ≡ number_on l.base 0 l.word
