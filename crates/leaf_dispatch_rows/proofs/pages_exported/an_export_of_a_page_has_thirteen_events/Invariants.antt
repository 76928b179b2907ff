use Rattle.std.proofs.Common.{◌≡◌}
use Rattle.leaf_dispatch_rows.proofs.pages_exported.an_export_of_a_page_has_thirteen_events.Given as goal

abbrev pub invariant-loop-event : goal.invariant-loop-event
invariant-loop-event g l = l.lp.place.machine ≡ l.bench.machine
