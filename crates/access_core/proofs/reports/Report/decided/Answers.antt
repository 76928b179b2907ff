use Rattle.std.proofs.Common.{Ok, sym, subst, List}
use Rattle.td_words.specs.declared.replies.Value.TheVariants as value
use Rattle.td_words.specs.declared.replies.Reply.TheVariants.{Done}
use Rattle.leaf_engine.specs.Changes.{Change}
use Rattle.leaf_engine.specs.Decides.{Decides}
use Rattle.leaf_engine.proofs.Decided.{decided-changes}
use Rattle.access_core.specs.ReportTrees.{report_tree}
use Rattle.access_core.proofs.reports.Report.decided.Goals as goal

pub returns-in-Ok-clause-decides : goal.returns-in-Ok-clause-decides
returns-in-Ok-clause-decides c =
    let l = c.args.self.now in
    let n = l.place.machine.pages in
    let tree = report_tree l.place.machine l.tdr l.vp l.line in
    let is = rw c.as_slice.ensures.value at (c.in-Ok.ensures.comes l.line).1 in
    subst (λ (cs : List Change). Decides n tree l.told.items (Ok (record { reply = Done value.Nothing; changes = cs }))) (sym (decided-changes n tree l.told.items _ is)) is

pub returns-in-Err-clause-decides : goal.returns-in-Err-clause-decides
returns-in-Err-clause-decides c = (let l = c.args.self.now in rw c.as_slice.ensures.value at (c.in-Err.ensures.comes l.line))
