use Rattle.std.proofs.Common.{◌≡◌, ◌+◌, ◌≤◌, ◌^◌, length}
use Rattle.line_words.specs.Words.{pieces}
use Rattle.pair_runner.specs.Plans.{items_from}
use Rattle.pair_runner.proofs.Steps.{behind}
use Rattle.pair_runner.proofs.plans.read_lines.Given as goal

-- the lines that are left stand behind those that were read
abbrev pub invariant-loop-line : goal.invariant-loop-line
invariant-loop-line l = record {
  so_far : behind l.plan.items (items_from l.modules l.number (pieces l.rest)) ≡ items_from l.modules 1 (pieces l.bytes);
  few : l.number + length l.rest ≤ 2 ^ 16 + 1;
}

abbrev pub decreases-loop-line : goal.decreases-loop-line
decreases-loop-line l = length l.rest
