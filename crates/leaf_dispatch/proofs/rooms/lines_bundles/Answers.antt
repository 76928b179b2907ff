use Rattle.std.proofs.Common.{◌+◌, ℕ, ap, arith}
use Rattle.leaf_dispatch.specs.BundleRooms.{count_of}
use Rattle.leaf_dispatch.proofs.Making.{make-more}
use Rattle.leaf_dispatch.proofs.rooms.lines_bundles.Goals as goal

pub loop-i-preserved : goal.loop-i-preserved
loop-i-preserved c =
    let few = c.call_bundles-room.ensures.few in
    let before = c.loop-i.invariant.1 in (
      make-more count_of c.loop-i.i c.loop-i.room _ c.args.calls.now _ c.loop-i-test.true c.loop-i.invariant.0 (ap (λ (n : ℕ). c.loop-i.room + n) c.call_bundles-room.ensures.count),
      omega (arith, few, before),
    )
