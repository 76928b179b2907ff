use Rattle.std.proofs.Common.{◌≡◌, ◌++◌, replicate}
use Rattle.trace_texts.proofs.lines.push_column.Given as goal

abbrev pub invariant-loop-space : goal.invariant-loop-space
invariant-loop-space l = l.text.items ≡ (l.fn.text.items ++ l.part) ++ replicate l._space 32
