use Rattle.std.proofs.Common.{Ok, Err}
use Rattle.td_words.specs.declared.replies.Value.TheVariants as value
use Rattle.td_words.specs.declared.replies.Reply.TheVariants.{Done}
use Rattle.leaf_engine.specs.Decides.{Ending}
use Rattle.leaf_engine.specs.Trees.{feed, changes_of}
use Rattle.leaf_engine.proofs.Decided.{decided, decided-kept, decided-then}
use Rattle.access_core.specs.ReportTrees.{report_tree}
use Rattle.access_core.proofs.reports.ReportLeaf.need.Goals as goal

pub returns-in-Ok-clause-gives : goal.returns-in-Ok-clause-gives
returns-in-Ok-clause-gives c =
    let l = c.args.self.now in
    let tree = report_tree l.place.machine l.tdr l.vp l.line in
    let end : Ending = record { reply = Done value.Nothing; changes = changes_of (feed tree l.told.items) } in
    decided l.place.machine.pages tree l.told.items (Ok end) c.in-Ok.ensures.decides

pub returns-in-Ok-clause-rest : goal.returns-in-Ok-clause-rest
returns-in-Ok-clause-rest c =
    let l = c.args.self.now in
    let tree = report_tree l.place.machine l.tdr l.vp l.line in
    let end : Ending = record { reply = Done value.Nothing; changes = changes_of (feed tree l.told.items) } in
    decided-kept l.place.machine.pages tree l.told.items end c.in-Ok.ensures.decides

pub returns-in-Err-clause-gives : goal.returns-in-Err-clause-gives
returns-in-Err-clause-gives c =
    let l = c.args.self.now in
    rw c.need_more.ensures.need (decided l.place.machine.pages (report_tree l.place.machine l.tdr l.vp l.line) l.told.items (Err c.in-Err.stop) c.in-Err.ensures.decides)

pub returns-in-Err-clause-rest : goal.returns-in-Err-clause-rest
returns-in-Err-clause-rest c =
    let l = c.args.self.now in
    rw c.need_more.ensures.told (decided-then l.place.machine.pages (report_tree l.place.machine l.tdr l.vp l.line) l.told.items c.in-Err.stop c.in-Err.ensures.decides)
