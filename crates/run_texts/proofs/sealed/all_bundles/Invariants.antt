use Rattle.std.proofs.Common.{◌≡◌, ◌++◌, drop}
use Rattle.run_texts.specs.Sealing.{bundles_seen}
use Rattle.run_texts.proofs.sealed.all_bundles.Given as goal

abbrev pub invariant-loop-lp : goal.invariant-loop-lp
invariant-loop-lp l = l.all.items ++ bundles_seen (drop l.lp l.lps) ≡ bundles_seen l.lps
