use Rattle.guest_turns.proofs.SharedTurns.{is-violated, completes}
use Rattle.guest_turns.proofs.acts.act.Goals as goal

pub returns-then-says_host-clause-turned : goal.returns-then-says_host-clause-turned
returns-then-says_host-clause-turned g c =
    let run = c.args.run.now in
    let pamt = rw (c.pamt_address.ensures, run.named) at c.load-pamt.ensures.did in
    completes (g.B.Bench.did c.args.bench.now) (g.B.Bench.did c.load-pamt.new.bench) _ run.access run.vp run.line run.register run.gpa c.load-pamt.result c.complete-moved.result c.complete-moved.new.bench
    (λ xs. g.met.B.Bench.did_more _ _ _ _ _ pamt) c.complete-moved.ensures.moved (rw c.says_host.ensures at c.if-says_host.true)

pub returns-else-says_host-clause-turned : goal.returns-else-says_host-clause-turned
returns-else-says_host-clause-turned g c =
    let run = c.args.run.now in
    let pamt = rw (c.pamt_address.ensures, run.named) at c.load-pamt.ensures.did in
    is-violated (g.B.Bench.did c.args.bench.now) _ run.access run.vp run.line run.register run.gpa c.load-pamt.result c.load-pamt.new.bench pamt (rw c.says_host.ensures at c.if-says_host.false)
