use Rattle.std.specs.List.{All}
use Rattle.leaf_engine.specs.Merges.{IsOperation}
use Rattle.leaf_dispatch_rows.proofs.guests.loads.Given as goal

abbrev pub invariant-loop-number : goal.invariant-loop-number
invariant-loop-number l = All IsOperation l.ops.items
