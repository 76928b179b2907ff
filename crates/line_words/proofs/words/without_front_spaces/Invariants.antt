use Rattle.std.proofs.Common.{◌≡◌, ◌≤◌, length}
use Rattle.line_words.specs.Words.{words, without_front_spaces}
use Rattle.line_words.proofs.words.without_front_spaces.Given as goal

abbrev pub invariant-loop-rest : goal.invariant-loop-rest
invariant-loop-rest l = record { exact : without_front_spaces l.rest ≡ without_front_spaces l.bytes; same : words l.rest ≡ words l.bytes; shorter : length l.rest ≤ length l.bytes }

abbrev pub decreases-loop-rest : goal.decreases-loop-rest
decreases-loop-rest l = length l.rest
