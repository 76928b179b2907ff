use Rattle.std.proofs.Common.{◌≡◌, ◌+◌, drop}
use Rattle.script_runner.specs.Ending.{ops_in}
use Rattle.script_runner.proofs.ending.count_ops.Given as goal

-- what is left goes on behind the sum so far
abbrev pub invariant-loop-i : goal.invariant-loop-i
invariant-loop-i l = l.total + ops_in (drop l.i l.codes) ≡ ops_in l.codes
