use Rattle.std.proofs.Common.{◌≡◌}
use Rattle.leaf_dispatch_rows.specs.declared.benches.TheConstants.{MACHINE}
use Rattle.leaf_dispatch_rows.proofs.guests.a_shared_access_reaches_pages_of_the_host_alone.Given as goal

abbrev pub invariant-loop-page : goal.invariant-loop-page
invariant-loop-page g l = l.bench.machine ≡ MACHINE

abbrev pub invariant-loop-op : goal.invariant-loop-op
invariant-loop-op g l = l.bench.machine ≡ MACHINE
