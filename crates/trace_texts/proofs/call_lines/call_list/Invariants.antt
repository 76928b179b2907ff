use Rattle.std.proofs.Common.{◌≡◌, ◌++◌, ◌+◌, ◌≤◌, map, length}
use Rattle.line_words.specs.Words.{pieces}
use Rattle.trace_texts.specs.CallLines.{line_seen, call_lines, call_list}
use Rattle.trace_texts.proofs.call_lines.call_list.Given as goal

-- the lines that are left go on behind those that were taken
abbrev pub invariant-loop-line : goal.invariant-loop-line
invariant-loop-line l = record {
  so_far : map line_seen l.lines.items ++ call_lines l.lp l.within l.number (pieces l.rest) ≡ call_list l.text l.lp;
  few : l.number + length l.rest ≤ length l.text + 1;
}

abbrev pub decreases-loop-line : goal.decreases-loop-line
decreases-loop-line l = length l.rest
