use Rattle.std.proofs.Common.{sym}
use Rattle.leaf_engine.proofs.Decided.{decided-changes, decided-none}
use Rattle.leaf_engine.proofs.plans.Planned.act.Goals as goal

pub returns-in-Ok : goal.returns-in-Ok
returns-in-Ok g c =
    let l = c.args.self.now in
    let t = g.P.Plan.task l.plan in (
      decided-changes t.place.machine.pages t.tree l.told.items (record { reply = c.in-Ok.verdict.reply; changes = g.P.Plan.changes l.plan l.told.items c.in-Ok.verdict.act }) (rw (sym c.as_slice.ensures.value) c.in-Ok.ensures.decides),
      rw (sym c.as_slice.ensures.value) c.in-Ok.ensures.inside,
    )

pub returns-in-Err : goal.returns-in-Err
returns-in-Err g c =
    let t = g.P.Plan.task c.args.self.now.plan in
    decided-none t.place.machine.pages t.tree c.args.self.now.told.items c.in-Err.field-0 (rw (sym c.as_slice.ensures.value) c.in-Err.ensures.decides)
