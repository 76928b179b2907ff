use Rattle.std.proofs.Common.{rules}
use Rattle.host_turns.proofs.HostTurns.{tries, refuses-page, refuses-word}
use Rattle.host_turns.proofs.host_accesses.begin_host.Goals as goal

pub returns-then-is_word-clause-turned : goal.returns-then-is_word-clause-turned
returns-then-is_word-clause-turned g c =
    let a = c.args in
    let tried = c.try_page-granted.ensures.tried in
    tries (g.B.Bench.did a.bench.now) (g.B.Bench.machine a.bench.now) _ a.page a.word tried.0 c.try_page-granted.result c.try_page-granted.new.bench (search rules) (search rules) tried.1 tried.2 c.stage_behind-stage.ensures (search rules)
    (rw (c.is_page.ensures, c.requires.pages) at c.if-is_page.true) (rw c.is_word.ensures at c.if-is_word.true)

pub returns-else-is_word-clause-turned : goal.returns-else-is_word-clause-turned
returns-else-is_word-clause-turned g c =
    let a = c.args in
    rw (c.refuse.ensures.kept, c.refuse.ensures.turn)
    (refuses-word (g.B.Bench.did a.bench.now) (g.B.Bench.machine a.bench.now) a.access a.page a.word a.bench.now (g.met.B.Bench.did_none _) (rw (c.is_page.ensures, c.requires.pages) at c.if-is_page.true) (rw c.is_word.ensures at c.if-is_word.false))

pub returns-else-is_page-clause-turned : goal.returns-else-is_page-clause-turned
returns-else-is_page-clause-turned g c =
    let a = c.args in
    rw (c.refuse-else-is_page.ensures.kept, c.refuse-else-is_page.ensures.turn)
    (refuses-page (g.B.Bench.did a.bench.now) (g.B.Bench.machine a.bench.now) a.access a.page a.word a.bench.now (g.met.B.Bench.did_none _) (rw (c.is_page.ensures, c.requires.pages) at c.if-is_page.false))
