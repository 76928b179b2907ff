use Rattle.std.proofs.Common.{◌≡◌, take}
use Rattle.leaf_dispatch.specs.NoteRooms.{lines_room}
use Rattle.leaf_dispatch.proofs.rooms.lines_room.Given as goal

abbrev pub invariant-loop-i : goal.invariant-loop-i
invariant-loop-i l = l.room ≡ lines_room l.longest (take l.i l.calls)
