use Rattle.std.proofs.Common.{◌≡◌}
use Rattle.leaf_dispatch_rows.proofs.turns.a_creation_has_five_events.Given as goal

abbrev pub invariant-loop-event : goal.invariant-loop-event
invariant-loop-event g l = l.lp.place.machine ≡ l.bench.machine
