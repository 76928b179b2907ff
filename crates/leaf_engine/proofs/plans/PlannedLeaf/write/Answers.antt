use Rattle.std.proofs.Common.{sym}
use Rattle.leaf_engine.specs.Trees.{feed, changes_of}
use Rattle.leaf_engine.proofs.Decided.{none-next, some-next}
use Rattle.leaf_engine.proofs.plans.PlannedLeaf.write.Goals as goal

pub returns-in_err-write-clause-next : goal.returns-in_err-write-clause-next
returns-in_err-write-clause-next g c =
    let l = c.args.self.now in
    let t = g.P.Plan.task l.plan in
    rw c.from_residual-in_err-write.ensures (none-next t.place.machine (changes_of (feed t.tree l.told.items)) l.written c.args.hasher.now c.write.new.hand (rw (c.in_ok-act.ensures.0, sym c.as_slice.ensures.value) c.in_err-write.ensures.hands))

pub returns-clause-next : goal.returns-clause-next
returns-clause-next g c =
    let l = c.args.self.now in
    let t = g.P.Plan.task l.plan in
    some-next t.place.machine (changes_of (feed t.tree l.told.items)) l.written c.args.hasher.now c.write.new.hand c.in_ok-write.write (rw (c.in_ok-act.ensures.0, sym c.as_slice.ensures.value) c.in_ok-write.ensures.hands)
