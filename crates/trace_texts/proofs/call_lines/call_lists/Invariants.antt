use Rattle.std.proofs.Common.{◌≡◌, ◌++◌, ◌-◌}
use Rattle.trace_texts.specs.CallLines.{lists_seen, call_lists}
use Rattle.trace_texts.proofs.call_lines.call_lists.Given as goal

abbrev pub invariant-loop-lp : goal.invariant-loop-lp
invariant-loop-lp l = lists_seen l.lists.items ++ call_lists l.text l.lp (l.lps - l.lp) ≡ call_lists l.text 0 l.lps
