use Rattle.std.proofs.Common.{◌≡◌, ◌++◌, drop, map}
use Rattle.std.specs.List.{concat}
use Rattle.report_text.specs.Lines.{note_line}
use Rattle.report_text.proofs.guest.guest_lines.Given as goal

-- the notes that are left go on behind the text so far
abbrev pub invariant-loop-i : goal.invariant-loop-i
invariant-loop-i l = l.text.items ++ concat (map (note_line l.key l.reports l.lp) (drop l.i l.notes)) ≡ concat (map (note_line l.key l.reports l.lp) l.notes)
