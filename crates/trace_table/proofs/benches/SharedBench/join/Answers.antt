use Rattle.std.proofs.Common.{◌∙◌, arith}
use Rattle.trace_table.proofs.Seats.{joins}
use Rattle.trace_table.proofs.benches.SharedBench.join.Goals as goal

pub join_seat-requires : goal.join_seat-requires
join_seat-requires c =
    let b = c.args.self.now in
    let o = c.args.other in (
      b.at_table,
      c.requires.table ∙ b.at_table,
      o.rest.holds_none,
      (let h = b.wide in omega (arith, h)),
      joins b.table.now.key b.seat.id b.seat.me.0 o.seat.id o.seat.me.0 c.requires.first b.rest.own b.rest.idle c.requires.other (o.rest.alone c.requires.other).0 o.rest.idle,
    )
