use Rattle.std.proofs.Common.{sym, Ok, Err}
use Rattle.leaf_engine.specs.Decides.{Ending}
use Rattle.leaf_engine.proofs.Decided.{decided, decided-kept, decided-then, decided-changes}
use Rattle.leaf_engine.proofs.plans.PlannedLeaf.need.Goals as goal

pub returns-in-Ok-clause-gives : goal.returns-in-Ok-clause-gives
returns-in-Ok-clause-gives g c =
    let l = c.args.self.now in
    let t = g.P.Plan.task l.plan in
    let end : Ending = record { reply = c.in-Ok.verdict.reply; changes = g.P.Plan.changes l.plan l.told.items c.in-Ok.verdict.act } in
    decided t.place.machine.pages t.tree l.told.items (Ok end) (rw (sym c.as_slice.ensures.value) c.in-Ok.ensures.decides)

pub returns-in-Ok-clause-rest : goal.returns-in-Ok-clause-rest
returns-in-Ok-clause-rest g c =
    let l = c.args.self.now in
    let t = g.P.Plan.task l.plan in
    let end : Ending = record { reply = c.in-Ok.verdict.reply; changes = g.P.Plan.changes l.plan l.told.items c.in-Ok.verdict.act } in
    decided-kept t.place.machine.pages t.tree l.told.items end (rw (sym c.as_slice.ensures.value) c.in-Ok.ensures.decides)

pub invariant_of-self-clause-known : goal.invariant_of-self-clause-known
invariant_of-self-clause-known g c =
    let l = c.args.self.now in
    let t = g.P.Plan.task l.plan in
    let end : Ending = record { reply = c.in-Ok.verdict.reply; changes = g.P.Plan.changes l.plan l.told.items c.in-Ok.verdict.act } in
    (decided-changes t.place.machine.pages t.tree l.told.items end (rw (sym c.as_slice.ensures.value) c.in-Ok.ensures.decides), rw (sym c.as_slice.ensures.value) c.in-Ok.ensures.inside)

pub returns-in-Err-clause-gives : goal.returns-in-Err-clause-gives
returns-in-Err-clause-gives g c =
    let t = g.P.Plan.task c.args.self.now.plan in
    rw c.need_at.ensures.need (decided t.place.machine.pages t.tree c.args.self.now.told.items (Err c.in-Err.stop) (rw (sym c.as_slice.ensures.value) c.in-Err.ensures.decides))

pub returns-in-Err-clause-rest : goal.returns-in-Err-clause-rest
returns-in-Err-clause-rest g c =
    let t = g.P.Plan.task c.args.self.now.plan in
    rw c.need_at.ensures.told (decided-then t.place.machine.pages t.tree c.args.self.now.told.items c.in-Err.stop (rw (sym c.as_slice.ensures.value) c.in-Err.ensures.decides))

pub invariant_of-self-in-Err-clause-known : goal.invariant_of-self-in-Err-clause-known
invariant_of-self-in-Err-clause-known g c = tt
