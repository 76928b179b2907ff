use Rattle.host_turns.proofs.HostTurns.{is-refused, accesses}
use Rattle.host_turns.proofs.acts.act.Goals as goal

pub returns-then-says_host-clause-turned : goal.returns-then-says_host-clause-turned
returns-then-says_host-clause-turned g c =
    let run = c.args.run.now in
    let pamt = rw c.pamt_address.ensures at c.load-pamt.ensures.did in
    accesses (g.B.Bench.did c.args.bench.now) (g.B.Bench.did c.load-pamt.new.bench) _ run.access run.page run.word c.load-pamt.result c.access.result c.access.new.bench
    (λ xs. g.met.B.Bench.did_more _ _ _ _ _ pamt) c.access.ensures.accessed (rw c.says_host.ensures at c.if-says_host.true)

pub returns-else-says_host-clause-turned : goal.returns-else-says_host-clause-turned
returns-else-says_host-clause-turned g c =
    let run = c.args.run.now in
    let pamt = rw c.pamt_address.ensures at c.load-pamt.ensures.did in
    rw c.refused.ensures (is-refused (g.B.Bench.did c.args.bench.now) _ run.access run.page run.word c.load-pamt.result c.load-pamt.new.bench pamt (rw c.says_host.ensures at c.if-says_host.false))
