use Rattle.leaf_parts.proofs.Parts.{goes-on, goes-off, feeds-on, exit}
use Rattle.export_pages.proofs.Asked.{walking, naming, behind_page, behind_walk}
use Rattle.export_pages.proofs.page_conditions.find_exportable.Goals as goal

pub returns-in_err-at-clause-goes : goal.returns-in_err-at-clause-goes
returns-in_err-at-clause-goes c =
    let a = c.args in let n = a.place.machine.pages in let e = c.in_err-at.field-0.0 in
    goes-off n (walking n a.tdr a.gpa a.td) (behind_walk n a.tdr a.gpa a.td) a.told.now.left.now c.shared_walk.new.told.left.now c.shared_walk.new.told.left.now e c.from_residual.result
    (exit c.from_residual.result e _ c.from_residual.ensures.1 (λ y h. h)) c.in_err-at.ensures.goes

pub returns-in_err-page-clause-goes : goal.returns-in_err-page-clause-goes
returns-in_err-page-clause-goes c =
    let a = c.args in let n = a.place.machine.pages in let e = c.in_err-page.field-0.0 in
    goes-on n (walking n a.tdr a.gpa a.td) (behind_walk n a.tdr a.gpa a.td) a.told.now.left.now c.shared_walk.new.told.left.now c.page_of.new.told.left.now c.in_ok-at.at c.from_residual-in_err-page.result
    c.in_ok-at.ensures.goes
    (goes-off n (naming n a.tdr a.gpa a.td c.in_ok-at.at) (behind_page n a.tdr a.gpa a.td c.in_ok-at.at) c.shared_walk.new.told.left.now c.page_of.new.told.left.now c.page_of.new.told.left.now e c.from_residual-in_err-page.result
    (exit c.from_residual-in_err-page.result e _ c.from_residual-in_err-page.ensures.1 (λ y h. h)) c.in_err-page.ensures.goes)

pub returns-clause-goes : goal.returns-clause-goes
returns-clause-goes c =
    let a = c.args in let n = a.place.machine.pages in
    goes-on n (walking n a.tdr a.gpa a.td) (behind_walk n a.tdr a.gpa a.td) a.told.now.left.now c.shared_walk.new.told.left.now c.held_entry.new.told.left.now c.in_ok-at.at c.held_entry.result
    c.in_ok-at.ensures.goes
    (goes-on n (naming n a.tdr a.gpa a.td c.in_ok-at.at) (behind_page n a.tdr a.gpa a.td c.in_ok-at.at) c.shared_walk.new.told.left.now c.page_of.new.told.left.now c.held_entry.new.told.left.now c.in_ok-page.page c.held_entry.result
    c.in_ok-page.ensures.goes (rw c.exportable.ensures at c.held_entry.ensures.goes))

pub returns-clause-feeds : goal.returns-clause-feeds
returns-clause-feeds c =
    let a = c.args in let n = a.place.machine.pages in
    feeds-on (walking n a.tdr a.gpa a.td) (behind_walk n a.tdr a.gpa a.td) a.told.now.left.now c.shared_walk.new.told.left.now c.held_entry.new.told.left.now c.in_ok-at.at c.held_entry.result
    c.in_ok-at.ensures.feeds
    (feeds-on (naming n a.tdr a.gpa a.td c.in_ok-at.at) (behind_page n a.tdr a.gpa a.td c.in_ok-at.at) c.shared_walk.new.told.left.now c.page_of.new.told.left.now c.held_entry.new.told.left.now c.in_ok-page.page c.held_entry.result
    c.in_ok-page.ensures.feeds (rw c.exportable.ensures at c.held_entry.ensures.feeds))
