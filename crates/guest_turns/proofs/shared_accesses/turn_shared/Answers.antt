use Rattle.guest_turns.specs.SharedTurns.{locked_tree, standing_of, IsIn}
use Rattle.guest_turns.proofs.ShortTurns.{takes-back, gives-back}
use Rattle.guest_turns.proofs.shared_accesses.turn_shared.Goals as goal

pub returns-in-Denied-clause-turned : goal.returns-in-Denied-clause-turned
returns-in-Denied-clause-turned g c =
    let run = c.in-Some.run' in
    let did = rw (c.lock_address-at.ensures, run.named) at c.undo.ensures.did in
    rw (c.in-Some.is, c.end.ensures.kept, c.end.ensures.event, c.end.ensures.act, run.named, c.in-Denied.is)
    (takes-back standing_of IsIn (g.B.Bench.did c.args.bench.now) (g.B.Bench.machine c.args.bench.now) (locked_tree run.access run.vp run.line run.register run.gpa) _ did.0 c.undo.new.bench did.1)

pub returns-in-Violated-clause-turned : goal.returns-in-Violated-clause-turned
returns-in-Violated-clause-turned g c =
    let run = c.in-Some.run' in
    let did = rw (c.lock_address-at.ensures, run.named) at c.free.ensures.did in
    rw (c.in-Some.is, c.end-in-Violated.ensures.kept, c.end-in-Violated.ensures.event, c.end-in-Violated.ensures.act, c.violation.ensures, run.named, c.in-Violated.is)
    (gives-back standing_of IsIn (g.B.Bench.did c.args.bench.now) (g.B.Bench.machine c.args.bench.now) _ _ _ did.0 c.free.new.bench did.1)

pub returns-in-Completed-clause-turned : goal.returns-in-Completed-clause-turned
returns-in-Completed-clause-turned g c =
    let run = c.in-Some.run' in
    let did = rw (c.lock_address-at.ensures, run.named) at c.free-in-Completed.ensures.did in
    rw (c.in-Some.is, c.end-in-Completed.ensures.kept, c.end-in-Completed.ensures.event, c.end-in-Completed.ensures.act, run.named, c.in-Completed.is)
    (gives-back standing_of IsIn (g.B.Bench.did c.args.bench.now) (g.B.Bench.machine c.args.bench.now) _ _ _ did.0 c.free-in-Completed.new.bench did.1)
