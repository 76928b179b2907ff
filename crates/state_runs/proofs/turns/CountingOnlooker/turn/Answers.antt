use Rattle.std.proofs.Common.{◌<◌, arith}
use Rattle.state_runs.proofs.Counting.{counted-next}
use Rattle.state_runs.proofs.turns.CountingOnlooker.turn.Goals as goal

pub returns-in-Moved : goal.returns-in-Moved
returns-in-Moved c =
    let some : 0 < c.args.due.now = omega (arith, c.if-due-eq0.false) in
    (_, (c.in-Moved.ensures.turned, c.in-Moved.ensures.ended), λ o schedule s items next h. counted-next c.states_go_on.ensures c.args.self.now.events c.args.due.now some o schedule s items _ c.args.state.now c.turn.new.self _ next h)
