use Rattle.guest_turns.proofs.ShortTurns.{takes-back, gives-back}
use Rattle.host_turns.specs.HostTurns.{locked_tree, standing_of, IsIn}
use Rattle.host_turns.proofs.host_accesses.turn_host.Goals as goal

pub returns-in-Denied-clause-turned : goal.returns-in-Denied-clause-turned
returns-in-Denied-clause-turned g c =
    let run = c.in-Some.run' in
    let did = rw c.lock_address-at.ensures at c.undo.ensures.did in
    rw (c.in-Some.is, c.in-Denied.is)
    (takes-back standing_of IsIn (g.B.Bench.did c.args.bench.now) (g.B.Bench.machine c.args.bench.now) (locked_tree run.access run.page run.word) _ did.0 c.undo.new.bench did.1)

pub returns-in-Ended-clause-turned : goal.returns-in-Ended-clause-turned
returns-in-Ended-clause-turned g c =
    let did = rw c.lock_address-at.ensures at c.free.ensures.did in
    rw (c.in-Some.is, c.write_reply-in-Ended.ensures, c.in-Ended.is)
    (gives-back standing_of IsIn (g.B.Bench.did c.args.bench.now) (g.B.Bench.machine c.args.bench.now) _ _ _ did.0 c.free.new.bench did.1)
