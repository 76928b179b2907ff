use Rattle.std.proofs.Common.{◌≡◌, ◌≤◌, ◌*◌, take}
use Rattle.leaf_dispatch.specs.BundleRooms.{words_of, lines_make}
use Rattle.leaf_dispatch.proofs.rooms.lines_payloads.Given as goal

abbrev pub invariant-loop-i : goal.invariant-loop-i
invariant-loop-i l = (l.room ≡ lines_make words_of (take l.i l.calls)) × (l.room ≤ 512 * l.i)
