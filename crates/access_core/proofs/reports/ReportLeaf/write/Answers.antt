use Rattle.leaf_engine.specs.Trees.{feed, changes_of}
use Rattle.leaf_engine.proofs.Decided.{none-left, none-next, some-next}
use Rattle.access_core.specs.ReportTrees.{report_tree}
use Rattle.access_core.proofs.reports.ReportLeaf.write.Goals as goal

pub returns-in_err-position-clause-next : goal.returns-in_err-position-clause-next
returns-in_err-position-clause-next c =
    let l = c.args.self.now in
    rw c.from_residual.ensures (none-left l.place.machine (changes_of (feed (report_tree l.place.machine l.tdr l.vp l.line) l.told.items)) l.written c.args.hasher.now c.in_err-position.ensures)

pub returns-in_err-write-clause-next : goal.returns-in_err-write-clause-next
returns-in_err-write-clause-next c =
    let l = c.args.self.now in
    rw c.from_residual-in_err-write.ensures
    (none-next l.place.machine (changes_of (feed (report_tree l.place.machine l.tdr l.vp l.line) l.told.items)) l.written c.args.hasher.now c.report_write.new.hand (rw c.in_ok-position.ensures c.in_err-write.ensures.hands))

pub returns-clause-next : goal.returns-clause-next
returns-clause-next c =
    let l = c.args.self.now in
    some-next l.place.machine (changes_of (feed (report_tree l.place.machine l.tdr l.vp l.line) l.told.items)) l.written c.args.hasher.now c.report_write.new.hand c.in_ok-write.write (rw c.in_ok-position.ensures c.in_ok-write.ensures.hands)
