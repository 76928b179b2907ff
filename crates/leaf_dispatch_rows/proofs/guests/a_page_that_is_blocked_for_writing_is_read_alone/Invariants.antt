use Rattle.std.proofs.Common.{◌≡◌}
use Rattle.leaf_dispatch_rows.specs.declared.benches.TheConstants.{MACHINE}
use Rattle.leaf_dispatch_rows.proofs.guests.a_page_that_is_blocked_for_writing_is_read_alone.Given as goal

abbrev pub invariant-loop-call : goal.invariant-loop-call
invariant-loop-call g l = l.bench.machine ≡ MACHINE
