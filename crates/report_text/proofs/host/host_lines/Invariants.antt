use Rattle.std.proofs.Common.{◌≡◌, ◌++◌, ◌+◌, drop}
use Rattle.std.specs.List.{concat}
use Rattle.report_text.specs.Lines.{reply_lines}
use Rattle.report_text.proofs.host.host_lines.Given as goal

abbrev pub invariant-loop-i : goal.invariant-loop-i
invariant-loop-i l = l.text.items ++ concat (reply_lines l.lp (l.i + 1) (drop l.i l.replies)) ≡ concat (reply_lines l.lp 1 l.replies)
