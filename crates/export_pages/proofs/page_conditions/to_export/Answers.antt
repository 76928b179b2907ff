use Rattle.leaf_parts.proofs.Parts.{goes-on, goes-off, feeds-on, exit}
use Rattle.export_pages.proofs.Asked.{arguing, heading, behind_head, behind_arguments}
use Rattle.export_pages.proofs.page_conditions.to_export.Goals as goal

pub returns-in_err-are_in_range-clause-goes : goal.returns-in_err-are_in_range-clause-goes
returns-in_err-are_in_range-clause-goes c =
    let a = c.args in let m = a.place.machine in let e = c.in_err-are_in_range.field-0.0 in
    goes-off m.pages (arguing m a.tdr a.gpa a.stream) (behind_arguments m a.tdr a.gpa a.stream) a.told.now.left.now a.told.now.left.now a.told.now.left.now e c.from_residual.result
    (exit c.from_residual.result e _ c.from_residual.ensures.1 (λ y h. h)) c.in_err-are_in_range.ensures.goes

pub returns-in_err-td-clause-goes : goal.returns-in_err-td-clause-goes
returns-in_err-td-clause-goes c =
    let a = c.args in let m = a.place.machine in let e = c.in_err-td.field-0.0 in
    goes-on m.pages (arguing m a.tdr a.gpa a.stream) (behind_arguments m a.tdr a.gpa a.stream) a.told.now.left.now a.told.now.left.now c.td_head.new.told.left.now tt c.from_residual-in_err-td.result
    c.in_ok-are_in_range.ensures.goes
    (goes-off m.pages (heading m a.tdr a.gpa a.stream) (behind_head m a.tdr a.gpa a.stream) a.told.now.left.now c.td_head.new.told.left.now c.td_head.new.told.left.now e c.from_residual-in_err-td.result
    (exit c.from_residual-in_err-td.result e _ c.from_residual-in_err-td.ensures.1 (λ y h. h)) c.in_err-td.ensures.goes)

pub returns-clause-goes : goal.returns-clause-goes
returns-clause-goes c =
    let a = c.args in let m = a.place.machine in
    goes-on m.pages (arguing m a.tdr a.gpa a.stream) (behind_arguments m a.tdr a.gpa a.stream) a.told.now.left.now a.told.now.left.now c.td_export.new.told.left.now tt c.td_export.result
    c.in_ok-are_in_range.ensures.goes
    (goes-on m.pages (heading m a.tdr a.gpa a.stream) (behind_head m a.tdr a.gpa a.stream) a.told.now.left.now c.td_head.new.told.left.now c.td_export.new.told.left.now c.in_ok-td.td c.td_export.result
    c.in_ok-td.ensures.goes c.td_export.ensures.goes)

pub returns-clause-feeds : goal.returns-clause-feeds
returns-clause-feeds c =
    let a = c.args in let m = a.place.machine in
    feeds-on (arguing m a.tdr a.gpa a.stream) (behind_arguments m a.tdr a.gpa a.stream) a.told.now.left.now a.told.now.left.now c.td_export.new.told.left.now tt c.td_export.result
    c.in_ok-are_in_range.ensures.feeds
    (feeds-on (heading m a.tdr a.gpa a.stream) (behind_head m a.tdr a.gpa a.stream) a.told.now.left.now c.td_head.new.told.left.now c.td_export.new.told.left.now c.in_ok-td.td c.td_export.result
    c.in_ok-td.ensures.feeds c.td_export.ensures.feeds)
