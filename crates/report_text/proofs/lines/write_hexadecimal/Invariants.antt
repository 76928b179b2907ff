use Rattle.std.proofs.Common.{◌≡◌, ◌+◌, ◌-◌, ◌≤◌, false, drop, length}
use Rattle.std.specs.Fmt.{digits_onto}
use Rattle.report_text.proofs.lines.write_hexadecimal.Given as goal

-- what is left, written in front of what is, is the number's digits
abbrev pub invariant-loop-at : goal.invariant-loop-at
invariant-loop-at l =
    (l.at ≤ l.end) × (l.end ≤ l.at + 16) × (length l.line ≡ 72) × (digits_onto (l.at - (l.end - 16)) 16 false l.rest (drop l.at l.line) ≡ digits_onto 16 16 false l.n (drop l.end l.fn.line))

abbrev pub decreases-loop-at : goal.decreases-loop-at
decreases-loop-at l = l.at
