use Rattle.std.proofs.Common.{◌≡◌, ◌+◌, map, drop}
use Rattle.script_runner.specs.Ending.{calls_in}
use Rattle.script_runner.proofs.ending.count_calls.Given as goal

-- what is left goes on behind the sum so far
abbrev pub invariant-loop-i : goal.invariant-loop-i
invariant-loop-i l = l.total + calls_in (map (λ list. list.items) (drop l.i l.lists)) ≡ calls_in (map (λ list. list.items) l.lists)
