use Rattle.std.proofs.Common.{◌≡◌, ◌++◌, take}
use Rattle.leaf_dispatch.specs.Ended.{ended_seen}
use Rattle.run_texts.proofs.sealed.add_bundles.Given as goal

abbrev pub invariant-loop-i : goal.invariant-loop-i
invariant-loop-i l = l.all.items ≡ l.initial.all.items ++ take l.i (ended_seen l.bundles)
