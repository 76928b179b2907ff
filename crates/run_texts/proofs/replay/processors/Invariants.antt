use Rattle.std.proofs.Common.{map, take}
use Rattle.leaf_table.specs.Given.{given_in}
use Rattle.run_texts.specs.Replaying.{AreFirst}
use Rattle.run_texts.proofs.replay.processors.Given as goal

abbrev pub invariant-loop-lp : goal.invariant-loop-lp
invariant-loop-lp l = AreFirst l.machine (given_in l.given) l.codes 0 l.lps.items (map (λ list. list.items) (take l.lp l.lists))
