use Rattle.std.proofs.Common.{◌≡◌}
use Rattle.leaf_table.specs.Table.{code_in}
use Rattle.leaf_dispatch.specs.Bounds.{events_left}
use Rattle.leaf_dispatch.specs.States.{seen_of}
use Rattle.leaf_dispatch_rows.specs.declared.benches.TheConstants.{MACHINE}
use Rattle.leaf_dispatch_rows.proofs.guests.visit.Given as goal

abbrev pub invariant-loop-events : goal.invariant-loop-events
invariant-loop-events g l = record {
  place : l.lp.place.machine ≡ MACHINE;
  bench : l.bench.machine ≡ MACHINE;
}

abbrev pub decreases-loop-events : goal.decreases-loop-events
decreases-loop-events g l = events_left (code_in l.lp.codes.now) (seen_of l.lp)
