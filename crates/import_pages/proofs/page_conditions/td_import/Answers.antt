use Rattle.std.proofs.Common.{None, Ok, Err, ◌∙◌, subst}
use Rattle.flat_core.specs.World.{ClearHeader}
use Rattle.flat_core.specs.Inputs.{input_in}
use Rattle.leaf_engine.specs.Trees.{Tree}
use Rattle.leaf_parts.specs.Parts.{Goes, Feeds}
use Rattle.leaf_parts.proofs.Parts.{goes-stop, exit}
use Rattle.import_pages.specs.declared.page_imports.Importing.{Importing}
use Rattle.import_pages.specs.PageImportTrees.{arriving, td_rest, td_import_tree}
use Rattle.import_pages.specs.PageImportStages.{for_one, one_page}
use Rattle.import_pages.proofs.Asked.{tagged, behind_head}
use Rattle.import_pages.proofs.page_conditions.td_import.Goals as goal

pub returns-in_err-td-clause-goes : goal.returns-in_err-td-clause-goes
returns-in_err-td-clause-goes c =
    let a = c.args in let n = a.place.machine.pages in let x = input_in a.input.now in let e = c.in_err-td.field-0.0 in
    goes-stop n (λ f. td_import_tree n a.tdr (arriving x a.page None) x (for_one f)) a.told.now.left.now c.td_head.new.told.left.now c.from_residual.result e
    (exit c.from_residual.result e _ c.from_residual.ensures.1 (λ y z. z))
    (λ f. c.in_err-td.ensures.goes (behind_head n a.tdr a.page x f))

pub returns-in_err-importing-clause-goes : goal.returns-in_err-importing-clause-goes
returns-in_err-importing-clause-goes c =
    let a = c.args in let n = a.place.machine.pages in let x = input_in a.input.now in let e = c.in_err-importing.field-0.0 in
    goes-stop n (λ f. td_import_tree n a.tdr (arriving x a.page None) x (for_one f)) a.told.now.left.now c.page_to_fill.new.told.left.now c.from_residual-in_err-importing.result e
    (exit c.from_residual-in_err-importing.result e _ c.from_residual-in_err-importing.ensures.1 (λ y z. z))
    (λ f. c.in_ok-td.ensures.goes (behind_head n a.tdr a.page x f) (Err e) ((subst (λ (h : ClearHeader). Goes {A = Importing} n (λ f. td_rest n a.tdr (one_page h.gpa a.page) h c.in_ok-td.td.tdcs (for_one f)) c.td_head.new.told.left.now c.page_to_fill.new.told.left.now (Err e)) c.header_of-header.ensures c.in_err-importing.ensures.goes) (tagged n a.tdr a.page x f)))

pub returns-in_err-tag_holds-clause-goes : goal.returns-in_err-tag_holds-clause-goes
returns-in_err-tag_holds-clause-goes c =
    let a = c.args in let n = a.place.machine.pages in let x = input_in a.input.now in let e = c.in_err-tag_holds.field-0.0 in
    goes-stop n (λ f. td_import_tree n a.tdr (arriving x a.page None) x (for_one f)) a.told.now.left.now c.page_to_fill.new.told.left.now c.from_residual-in_err-tag_holds.result e
    (exit c.from_residual-in_err-tag_holds.result e _ c.from_residual-in_err-tag_holds.ensures.1 (λ y z. z))
    (λ f. c.in_ok-td.ensures.goes (behind_head n a.tdr a.page x f) (Err e) ((subst (λ (h : ClearHeader). Goes n (λ f. td_rest n a.tdr (one_page h.gpa a.page) h c.in_ok-td.td.tdcs (for_one f)) c.td_head.new.told.left.now c.page_to_fill.new.told.left.now (Ok c.in_ok-importing.importing)) c.header_of-header.ensures c.in_ok-importing.ensures.goes) (tagged n a.tdr a.page x f) (Err e)
    (c.in_err-tag_holds.ensures.goes n (λ u. f c.in_ok-importing.importing))))

pub returns-clause-goes : goal.returns-clause-goes
returns-clause-goes c = λ f r d.
    let a = c.args in let n = a.place.machine.pages in let x = input_in a.input.now in
    c.in_ok-td.ensures.goes (behind_head n a.tdr a.page x f) r ((subst (λ (h : ClearHeader). Goes n (λ f. td_rest n a.tdr (one_page h.gpa a.page) h c.in_ok-td.td.tdcs (for_one f)) c.td_head.new.told.left.now c.page_to_fill.new.told.left.now (Ok c.in_ok-importing.importing)) c.header_of-header.ensures c.in_ok-importing.ensures.goes) (tagged n a.tdr a.page x f) r
    (c.in_ok-tag_holds.ensures.goes n (λ u. f c.in_ok-importing.importing) r d))

pub returns-clause-feeds : goal.returns-clause-feeds
returns-clause-feeds c = λ f.
    let a = c.args in let n = a.place.machine.pages in let x = input_in a.input.now in
    c.in_ok-td.ensures.feeds (behind_head n a.tdr a.page x f) ∙ ((subst (λ (h : ClearHeader). Feeds (λ (f : Importing → Tree). td_rest n a.tdr (one_page h.gpa a.page) h c.in_ok-td.td.tdcs (for_one f)) c.td_head.new.told.left.now c.page_to_fill.new.told.left.now (Ok c.in_ok-importing.importing)) c.header_of-header.ensures c.in_ok-importing.ensures.feeds) (tagged n a.tdr a.page x f)
    ∙ c.in_ok-tag_holds.ensures.feeds (λ u. f c.in_ok-importing.importing))
