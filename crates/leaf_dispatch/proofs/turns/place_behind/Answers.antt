use Rattle.leaf_dispatch.proofs.Reporting.{place-some, place-none}
use Rattle.leaf_dispatch.proofs.turns.place_behind.Goals as goal

pub returns-then-count-reports-clause-facts : goal.returns-then-count-reports-clause-facts
returns-then-count-reports-clause-facts c = λ before f long is. place-some before c.args.reports.now f c.args.count long is c.if-count-reports.true

pub returns-else-count-reports-clause-facts : goal.returns-else-count-reports-clause-facts
returns-else-count-reports-clause-facts c = λ before f long is. place-none before c.args.reports.now f c.args.count long is c.if-count-reports.false
