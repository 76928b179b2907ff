use Rattle.std.proofs.Common.{rules}
use Rattle.guest_turns.proofs.SharedTurns.{tries, violates}
use Rattle.guest_turns.proofs.shared_accesses.begin_shared.Goals as goal

pub returns-then-names_other-clause-turned : goal.returns-then-names_other-clause-turned
returns-then-names_other-clause-turned g c =
    let tried = c.try_page-granted.ensures.tried in
    let other = rw (c.names_other.ensures, c.shared_page-named.ensures, c.requires.pages) at c.if-names_other.true in
    tries (g.B.Bench.did c.args.bench.now) (g.B.Bench.machine c.args.bench.now) _ tried.0 c.try_page-granted.result c.try_page-granted.new.bench tried.1 tried.2 c.stage_behind-stage.ensures (search rules) other

pub returns-else-names_other-clause-turned : goal.returns-else-names_other-clause-turned
returns-else-names_other-clause-turned g c =
    let a = c.args in
    let other = rw (c.names_other.ensures, c.shared_page-named.ensures, c.requires.pages) at c.if-names_other.false in
    rw c.violation-reply.ensures (violates (g.B.Bench.did a.bench.now) (g.B.Bench.machine a.bench.now) a.access a.vp a.line a.register a.gpa a.bench.now (g.met.B.Bench.did_none _) other)
