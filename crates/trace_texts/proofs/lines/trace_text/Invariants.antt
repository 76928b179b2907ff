use Rattle.std.proofs.Common.{◌≡◌, ◌++◌, drop}
use Rattle.trace_texts.specs.CallLines.{lists_seen}
use Rattle.trace_texts.specs.Lines.{trace_text}
use Rattle.trace_texts.proofs.lines.trace_text.Given as goal

abbrev pub invariant-loop-i : goal.invariant-loop-i
invariant-loop-i l = l.text.items ++ trace_text l.form (lists_seen l.lists) (drop l.i l.traced) ≡ trace_text l.form (lists_seen l.lists) l.traced
