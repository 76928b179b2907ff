use Rattle.std.proofs.Common.{ap}
use Rattle.leaf_engine.specs.Trees.{changes_of}
use Rattle.leaf_engine.proofs.Decided.{decided-none}
use Rattle.access_core.specs.ReportTrees.{report_tree}
use Rattle.access_core.proofs.reports.Report.position.Goals as goal

pub returns-in-Ok : goal.returns-in-Ok
returns-in-Ok c = (let l = c.args.self.now in ap changes_of (rw c.as_slice.ensures.value at (c.in-Ok.ensures.comes l.line).0))

pub returns-in-Err : goal.returns-in-Err
returns-in-Err c =
    let l = c.args.self.now in
    decided-none l.place.machine.pages (report_tree l.place.machine l.tdr l.vp l.line) l.told.items c.in-Err.field-0 (rw c.as_slice.ensures.value at (c.in-Err.ensures.comes l.line))
