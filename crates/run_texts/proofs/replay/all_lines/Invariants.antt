use Rattle.std.proofs.Common.{◌≡◌, ◌++◌, drop}
use Rattle.std.specs.List.{concat}
use Rattle.run_texts.specs.Replaying.{lines_seen}
use Rattle.run_texts.proofs.replay.all_lines.Given as goal

abbrev pub invariant-loop-lp : goal.invariant-loop-lp
invariant-loop-lp l = l.text.items ++ concat (lines_seen l.lp (drop l.lp l.lps)) ≡ concat (lines_seen 0 l.lps)
