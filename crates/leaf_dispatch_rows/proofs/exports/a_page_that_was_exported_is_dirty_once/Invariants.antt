use Rattle.std.proofs.Common.{◌≡◌}
use Rattle.leaf_dispatch_rows.specs.declared.benches.TheConstants.{MACHINE}
use Rattle.leaf_dispatch_rows.proofs.exports.a_page_that_was_exported_is_dirty_once.Given as goal

abbrev pub invariant-loop-call : goal.invariant-loop-call
invariant-loop-call g l = l.bench.machine ≡ MACHINE
