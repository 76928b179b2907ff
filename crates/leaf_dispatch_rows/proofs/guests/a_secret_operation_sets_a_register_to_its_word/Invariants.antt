use Rattle.std.proofs.Common.{◌≡◌}
use Rattle.leaf_dispatch_rows.specs.declared.benches.TheConstants.{MACHINE}
use Rattle.leaf_dispatch_rows.proofs.guests.a_secret_operation_sets_a_register_to_its_word.Given as goal

abbrev pub invariant-loop-op : goal.invariant-loop-op
invariant-loop-op g l = l.bench.machine ≡ MACHINE
