use Rattle.std.proofs.Common.{sym, ap}
use Rattle.leaf_engine.specs.Besides.{reported}
use Rattle.leaf_engine.specs.Trees.{Tree, answer_of}
use Rattle.access_core.specs.ReportTrees.{report_tree}
use Rattle.access_core.proofs.ReportsTold.{none-noted}
use Rattle.access_core.proofs.reports.Report.facts.Goals as goal

pub returns-in-Ok : goal.returns-in-Ok
returns-in-Ok c =
    let l = c.args.self.now in
    rw c.facts.ensures (sym (ap (λ (t : Tree). reported (answer_of t).notes) (rw c.as_slice.ensures.value at (c.in-Ok.ensures.comes l.line).0)))

pub returns-in-Err : goal.returns-in-Err
returns-in-Err c =
    let l = c.args.self.now in
    sym (none-noted l.place.machine.pages (report_tree l.place.machine l.tdr l.vp l.line) l.told.items c.in-Err.field-0 (rw c.as_slice.ensures.value at (c.in-Err.ensures.comes l.line)))
