use Rattle.std.proofs.Common.{◌≡◌, take}
use Rattle.leaf_dispatch.specs.NoteRooms.{lines_reports}
use Rattle.leaf_dispatch.proofs.rooms.lines_reports.Given as goal

abbrev pub invariant-loop-i : goal.invariant-loop-i
invariant-loop-i l = l.room ≡ lines_reports l.most (take l.i l.calls)
