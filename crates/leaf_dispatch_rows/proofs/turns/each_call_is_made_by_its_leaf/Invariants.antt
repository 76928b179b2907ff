use Rattle.std.proofs.Common.{◌≡◌}
use Rattle.leaf_table.specs.Table.{code_in}
use Rattle.leaf_dispatch.specs.Bounds.{events_left}
use Rattle.leaf_dispatch.specs.States.{seen_of}
use Rattle.leaf_dispatch_rows.proofs.turns.each_call_is_made_by_its_leaf.Given as goal

abbrev pub invariant-loop : goal.invariant-loop
invariant-loop g l = l.lp.place.machine ≡ l.bench.machine

abbrev pub decreases-loop : goal.decreases-loop
decreases-loop g l = events_left (code_in l.lp.codes.now) (seen_of l.lp)
