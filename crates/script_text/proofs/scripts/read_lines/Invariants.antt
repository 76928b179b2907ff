use Rattle.std.proofs.Common.{◌≡◌, ◌+◌, ◌≤◌, ◌^◌, length}
use Rattle.line_words.specs.Words.{pieces}
use Rattle.script_text.specs.Reading.{read_from, nothing_yet, draft_seen}
use Rattle.script_text.proofs.scripts.read_lines.Given as goal

-- the lines that are left go on from the draft
abbrev pub invariant-loop-line : goal.invariant-loop-line
invariant-loop-line l = record {
  so_far : read_from (draft_seen l.draft) l.number (pieces l.rest) ≡ read_from nothing_yet 1 (pieces l.bytes);
  few : l.number + length l.rest ≤ 2 ^ 24 + 1;
}

abbrev pub decreases-loop-line : goal.decreases-loop-line
decreases-loop-line l = length l.rest
