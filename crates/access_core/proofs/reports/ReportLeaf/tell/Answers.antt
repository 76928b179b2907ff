use Rattle.std.proofs.Common.{sym, ◌∷◌, []}
use Rattle.leaf_engine.proofs.Decided.{feed-append}
use Rattle.access_core.specs.ReportTrees.{report_tree}
use Rattle.access_core.proofs.reports.ReportLeaf.tell.Goals as goal

pub returns-clause-rest : goal.returns-clause-rest
returns-clause-rest c = (let l = c.args.self.now in rw c.push.ensures.items (sym (feed-append (report_tree l.place.machine l.tdr l.vp l.line) l.told.items (c.args.word ∷ []))))
