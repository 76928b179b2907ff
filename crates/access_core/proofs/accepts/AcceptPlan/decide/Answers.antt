use Rattle.std.proofs.Common.{Err}
use Rattle.leaf_engine.specs.Decides.{ending}
use Rattle.leaf_parts.proofs.Parts.{exit}
use Rattle.access_core.specs.AcceptTrees.{accept_changes, accept_found}
use Rattle.access_core.proofs.Acceptances.{behind-word}
use Rattle.access_core.proofs.accepts.AcceptPlan.decide.Goals as goal

pub returns-in_err-page-clause-decides : goal.returns-in_err-page-clause-decides
returns-in_err-page-clause-decides c =
    let l = c.args.self.now in
    rw (exit c.from_residual-in_err-page.result c.in_err-page.field-0.0 _ c.from_residual-in_err-page.ensures.1 (λ y h. h))
    (behind-word l.place.machine l.tdr l.vp l.gpa c.in_ok-word.word c.page_told-tdcs.result c.args.told.left.now c.load.new.self.left.now (Err c.in_err-page.field-0.0) c.in_ok-word.ensures c.page_told-tdcs.ensures
    (c.in_err-page.ensures.goes (accept_found l.place.machine l.vp l.gpa)))

pub returns-clause-decides : goal.returns-clause-decides
returns-clause-decides c =
    let l = c.args.self.now in
    let r = ending (λ a. accept_changes l.vp l.gpa a.page a.count a.cleared) c.find_named.result in
    behind-word l.place.machine l.tdr l.vp l.gpa c.in_ok-word.word c.page_told-tdcs.result c.args.told.left.now c.load.new.self.left.now r c.in_ok-word.ensures c.page_told-tdcs.ensures
    (c.in_ok-page.ensures.goes (accept_found l.place.machine l.vp l.gpa) r c.find_named.ensures.decides)
