use Rattle.std.proofs.Common.{◌≡◌, ◌≤◌, take}
use Rattle.leaf_dispatch.specs.BundleRooms.{count_of, lines_make}
use Rattle.leaf_dispatch.proofs.rooms.lines_bundles.Given as goal

abbrev pub invariant-loop-i : goal.invariant-loop-i
invariant-loop-i l = (l.room ≡ lines_make count_of (take l.i l.calls)) × (l.room ≤ l.i)
