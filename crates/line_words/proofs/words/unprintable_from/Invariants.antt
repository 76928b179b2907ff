use Rattle.std.proofs.Common.{◌≡◌, ℕ, ◌≤◌, ◌<◌, ◌-◌, true, get_or, length}
use Rattle.line_words.specs.Words.{is_printable_byte}
use Rattle.line_words.proofs.words.unprintable_from.Given as goal

-- all bytes before this place are printable
abbrev pub invariant-loop-at : goal.invariant-loop-at
invariant-loop-at l = record {
  inside : l.at ≤ length l.bytes;
  before : (k : ℕ) → k < l.at → is_printable_byte (get_or l.bytes k 0) ≡ true;
}

abbrev pub decreases-loop-at : goal.decreases-loop-at
decreases-loop-at l = length l.bytes - l.at
