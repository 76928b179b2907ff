use Rattle.std.proofs.Common.{[], Ok, Err, ◌∙◌, subst}
use Rattle.flat_core.specs.Opening.{clear_header}
use Rattle.leaf_parts.specs.Parts.{Goes, Feeds}
use Rattle.leaf_parts.proofs.Parts.{goes-stop, exit}
use Rattle.sept_parts.specs.declared.finds.Found.{Found}
use Rattle.import_pages.specs.declared.page_imports.Filling.{Filling}
use Rattle.import_pages.specs.PageImportTrees.{found_rest, td_rest}
use Rattle.import_pages.specs.PageImportStages.{for_one, one_page}
use Rattle.import_pages.proofs.Asked.{for_room, behind_found, behind_due, behind_lock}
use Rattle.import_pages.proofs.page_conditions.page_to_fill.Goals as goal

pub returns-in_err-tree_lock-clause-goes : goal.returns-in_err-tree_lock-clause-goes
returns-in_err-tree_lock-clause-goes c =
    let a = c.args in let n = a.place.machine.pages in let h = clear_header a.header.now in let e = c.in_err-tree_lock.field-0.0 in
    goes-stop n (λ f. td_rest n a.tdr (one_page h.gpa a.page) h a.tdcs (for_one f)) a.told.now.left.now c.tree_lock.new.told.left.now c.from_residual.result e
    (exit c.from_residual.result e _ c.from_residual.ensures.1 (λ y z. z))
    (λ f. c.in_err-tree_lock.ensures.goes a.tdr (λ u. behind_lock n a.tdr a.page h a.tdcs u f))

pub returns-in_err-room-clause-goes : goal.returns-in_err-room-clause-goes
returns-in_err-room-clause-goes c =
    let a = c.args in let n = a.place.machine.pages in let h = clear_header a.header.now in let e = c.in_err-room.field-0.0 in
    goes-stop n (λ f. td_rest n a.tdr (one_page h.gpa a.page) h a.tdcs (for_one f)) a.told.now.left.now c.due_bundle.new.told.left.now c.from_residual-in_err-room.result e
    (exit c.from_residual-in_err-room.result e _ c.from_residual-in_err-room.ensures.1 (λ y z. z))
    (λ f. c.in_ok-tree_lock.ensures.goes a.tdr (λ u. behind_lock n a.tdr a.page h a.tdcs u f) (Err e) (c.in_err-room.ensures.goes (λ r. behind_due n a.tdr a.page h a.tdcs r f)))

pub returns-in_err-found-clause-goes : goal.returns-in_err-found-clause-goes
returns-in_err-found-clause-goes c =
    let a = c.args in let n = a.place.machine.pages in let h = clear_header a.header.now in let e = c.in_err-found.field-0.0 in let room = c.in_ok-room.room in
    goes-stop n (λ f. td_rest n a.tdr (one_page h.gpa a.page) h a.tdcs (for_one f)) a.told.now.left.now c.find.new.told.left.now c.from_residual-in_err-found.result e
    (exit c.from_residual-in_err-found.result e _ c.from_residual-in_err-found.ensures.1 (λ y z. z))
    (λ f. c.in_ok-tree_lock.ensures.goes a.tdr (λ u. behind_lock n a.tdr a.page h a.tdcs u f) (Err e)
    (c.in_ok-room.ensures.goes (λ r. behind_due n a.tdr a.page h a.tdcs r f) (Err e) (c.in_err-found.ensures.goes (λ x. behind_found n a.tdr a.page h a.tdcs room x f))))

pub returns-in_err-filling-clause-goes : goal.returns-in_err-filling-clause-goes
returns-in_err-filling-clause-goes c =
    let a = c.args in let n = a.place.machine.pages in let h = clear_header a.header.now in let e = c.in_err-filling.field-0.0 in let room = c.in_ok-room.room in
    goes-stop n (λ f. td_rest n a.tdr (one_page h.gpa a.page) h a.tdcs (for_one f)) a.told.now.left.now c.found_import.new.told.left.now c.from_residual-in_err-filling.result e
    (exit c.from_residual-in_err-filling.result e _ c.from_residual-in_err-filling.ensures.1 (λ y z. z))
    (λ f. c.in_ok-tree_lock.ensures.goes a.tdr (λ u. behind_lock n a.tdr a.page h a.tdcs u f) (Err e)
    (c.in_ok-room.ensures.goes (λ r. behind_due n a.tdr a.page h a.tdcs r f) (Err e) (c.in_ok-found.ensures.goes (λ x. behind_found n a.tdr a.page h a.tdcs room x f) (Err e)
    ((subst (λ (x : Found). Goes {A = Filling} n (λ f. found_rest a.tdr [] a.page x f) c.find.new.told.left.now c.found_import.new.told.left.now (Err e)) c.laid_out.ensures.same c.in_err-filling.ensures.goes)
    (for_room n a.tdr a.page h a.tdcs room f)))))

pub returns-clause-goes : goal.returns-clause-goes
returns-clause-goes c = λ f r d.
    let a = c.args in let n = a.place.machine.pages in let h = clear_header a.header.now in let room = c.in_ok-room.room in
    c.in_ok-tree_lock.ensures.goes a.tdr (λ u. behind_lock n a.tdr a.page h a.tdcs u f) r
    (c.in_ok-room.ensures.goes (λ q. behind_due n a.tdr a.page h a.tdcs q f) r (c.in_ok-found.ensures.goes (λ x. behind_found n a.tdr a.page h a.tdcs room x f) r
    ((subst (λ (x : Found). Goes {A = Filling} n (λ f. found_rest a.tdr [] a.page x f) c.find.new.told.left.now c.found_import.new.told.left.now (Ok c.in_ok-filling.filling)) c.laid_out.ensures.same c.in_ok-filling.ensures.goes)
    (for_room n a.tdr a.page h a.tdcs room f) r d)))

pub returns-clause-feeds : goal.returns-clause-feeds
returns-clause-feeds c = λ f.
    let a = c.args in let n = a.place.machine.pages in let h = clear_header a.header.now in let room = c.in_ok-room.room in
    c.in_ok-tree_lock.ensures.feeds a.tdr (λ u. behind_lock n a.tdr a.page h a.tdcs u f)
    ∙ (c.in_ok-room.ensures.feeds (λ q. behind_due n a.tdr a.page h a.tdcs q f) ∙ (c.in_ok-found.ensures.feeds (λ x. behind_found n a.tdr a.page h a.tdcs room x f)
    ∙ (subst (λ (x : Found). Feeds {A = Filling} (λ f. found_rest a.tdr [] a.page x f) c.find.new.told.left.now c.found_import.new.told.left.now (Ok c.in_ok-filling.filling)) c.laid_out.ensures.same c.in_ok-filling.ensures.feeds)
    (for_room n a.tdr a.page h a.tdcs room f)))
