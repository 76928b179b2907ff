use Rattle.std.proofs.Common.{◌≡◌, ◌+◌, ◌≤◌, ◌^◌, [], length, map}
use Rattle.line_words.specs.Words.{pieces}
use Rattle.reply_logs.specs.Logs.{line_seen, read_from}
use Rattle.reply_logs.proofs.logs.read_lines.Given as goal

-- the lines that are left go on from the log so far
abbrev pub invariant-loop-line : goal.invariant-loop-line
invariant-loop-line l = record {
  so_far : read_from (map (λ list. list.items) l.calls) (map line_seen l.log.items) l.number (pieces l.rest) ≡ read_from (map (λ list. list.items) l.calls) [] 1 (pieces l.bytes);
  few : l.number + length l.rest ≤ 2 ^ 24 + 1;
}

abbrev pub decreases-loop-line : goal.decreases-loop-line
decreases-loop-line l = length l.rest
