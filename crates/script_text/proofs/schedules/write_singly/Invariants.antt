use Rattle.std.proofs.Common.{◌≡◌, length, map}
use Rattle.line_words.specs.Words.{words}
use Rattle.script_text.specs.Schedule.{turns_in, written_of}
use Rattle.script_text.proofs.schedules.write_singly.Given as goal

-- the words that are left go on from the schedule so far
abbrev pub invariant-loop-turns : goal.invariant-loop-turns
invariant-loop-turns l = written_of l.schedule.items (map (turns_in l.lps) (words l.rest)) ≡ written_of l.initial.schedule.items (map (turns_in l.lps) (words l.text))

abbrev pub decreases-loop-turns : goal.decreases-loop-turns
decreases-loop-turns l = length l.rest
