use Rattle.std.proofs.Common.{◌≡◌, ℕ, ◌≤◌, ◌<◌, ◌-◌, true, get_or, length}
use Rattle.line_words.specs.Words.{is_printable_byte}
use Rattle.line_words.proofs.words.unprintable_place.Given as goal

-- all bytes before this place are printable
abbrev pub invariant-loop-from : goal.invariant-loop-from
invariant-loop-from l = record {
  inside : l.from ≤ length l.bytes;
  before : (k : ℕ) → k < l.from → is_printable_byte (get_or l.bytes k 0) ≡ true;
}

abbrev pub decreases-loop-from : goal.decreases-loop-from
decreases-loop-from l = length l.bytes - l.from
