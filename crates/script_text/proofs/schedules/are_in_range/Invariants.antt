use Rattle.std.proofs.Common.{◌≡◌, length}
use Rattle.std.specs.Prelude.{is_some}
use Rattle.std.specs.List.{list_all}
use Rattle.line_words.specs.Words.{words}
use Rattle.script_text.specs.Schedule.{turns_in}
use Rattle.script_text.proofs.schedules.are_in_range.Given as goal

-- the words that are left decide
abbrev pub invariant-loop-word : goal.invariant-loop-word
invariant-loop-word l = list_all (λ w. is_some (turns_in l.lps w)) (words l.rest) ≡ list_all (λ w. is_some (turns_in l.lps w)) (words l.text)

abbrev pub decreases-loop-word : goal.decreases-loop-word
decreases-loop-word l = length l.rest
