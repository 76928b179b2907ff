use Rattle.std.proofs.Common.{◌≡◌, List, [], length, ◌+◌, ◌++◌, Result}
use Rattle.leaf_engine.specs.declared.plans.Stop.{Stop}
use Rattle.leaf_engine.specs.Changes.{Change}
use Rattle.leaf_engine.specs.Decides.{Ending, Decides}
use Rattle.key_table.specs.CacheTrees.{mark_keys, marks}
use Rattle.key_table.proofs.cache_write_backs.mark_keys.Given as goal

abbrev pub invariant-loop-left : goal.invariant-loop-left
invariant-loop-left l = record {
  follows : (r : Result Ending Stop)
      → ((cs : List Change) → cs ++ marks l.number l.left l.answers.left.now ≡ marks 3 l.machine.hkids l.initial.answers.left.now → Decides l.machine.pages (mark_keys l.number l.left cs) l.answers.left.now r)
      → Decides l.machine.pages (mark_keys 3 l.machine.hkids []) l.initial.answers.left.now r;
  number : l.number + l.left ≡ 3 + l.machine.hkids;
  early : length l.initial.answers.left.now + l.left ≡ length l.answers.left.now + l.machine.hkids;
}

-- proposed from the loop's first test
abbrev pub decreases-loop-left : goal.decreases-loop-left
decreases-loop-left l = l.left
