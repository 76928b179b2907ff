use Rattle.std.proofs.Common.{◌≡◌}
use Rattle.soak_scripts.specs.Soak.{sum_ops}
use Rattle.soak_scripts.proofs.soaks.guest_code.Given as goal

abbrev pub invariant-loop-page : goal.invariant-loop-page
invariant-loop-page l = l.ops.items ≡ sum_ops l.page
