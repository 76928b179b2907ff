use Rattle.std.proofs.Common.{arith}
use Rattle.trace_table.proofs.Seats.{splits}
use Rattle.trace_table.proofs.benches.SharedBench.split.Goals as goal

pub split_seat-requires : goal.split_seat-requires
split_seat-requires c =
    let b = c.args.self.now in (
      b.at_table,
      (let h = b.wide in omega (arith, h)),
      splits b.table.now.key b.seat.id b.seat.me.0 c.requires b.rest.own b.rest.idle,
    )
