use Rattle.std.proofs.Common.{◌≡◌, ◌++◌, drop}
use Rattle.std.specs.List.{concat}
use Rattle.run_texts.specs.Replaying.{notes_seen}
use Rattle.run_texts.proofs.replay.all_notes.Given as goal

abbrev pub invariant-loop-lp : goal.invariant-loop-lp
invariant-loop-lp l = l.text.items ++ concat (notes_seen l.report_key l.lp (drop l.lp l.lps)) ≡ concat (notes_seen l.report_key 0 l.lps)
