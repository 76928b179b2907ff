use Rattle.std.proofs.Common.{◌≡◌}
use Rattle.leaf_dispatch_rows.proofs.guests.the_turns_of_a_guest_tell_what_they_were.Given as goal

abbrev pub invariant-loop-event : goal.invariant-loop-event
invariant-loop-event g l = l.lp.place.machine ≡ l.bench.machine
