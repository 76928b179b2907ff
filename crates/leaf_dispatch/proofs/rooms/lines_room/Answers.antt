use Rattle.std.proofs.Common.{◌∙◌, ◌+◌, ℕ, ap, arith}
use Rattle.leaf_dispatch.specs.NoteRooms.{call_room}
use Rattle.leaf_dispatch.proofs.Summing.{sum-more, sum-first}
use Rattle.leaf_dispatch.proofs.rooms.lines_room.Goals as goal

pub loop-i-preserved : goal.loop-i-preserved
loop-i-preserved c =
    sum-more (call_room c.args.longest) c.loop-i.i c.loop-i.room c.in-Some.more c.args.calls.now _ c.loop-i-test.true c.loop-i.invariant (c.in-Some.ensures.1 ∙ ap (λ (n : ℕ). c.loop-i.room + n) c.call_room.ensures)

pub returns-in_default : goal.returns-in_default
returns-in_default c =
    let next = sum-more (call_room c.args.longest) c.loop-i.i c.loop-i.room _ c.args.calls.now _ c.loop-i-test.true c.loop-i.invariant (ap (λ (n : ℕ). c.loop-i.room + n) c.call_room.ensures) in
    let first = sum-first (call_room c.args.longest) (c.loop-i.i + 1) c.args.calls.now in
    omega (arith, next, first)
