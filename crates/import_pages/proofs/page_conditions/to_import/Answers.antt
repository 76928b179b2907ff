use Rattle.std.proofs.Common.{[], ◌∷◌, None, Err, refl}
use Rattle.flat_core.specs.Inputs.{input_in}
use Rattle.leaf_parts.proofs.Parts.{goes-on, goes-stop, feeds-on, exit}
use Rattle.import_pages.specs.PageImportTrees.{page_import_asked}
use Rattle.import_pages.specs.PageImportStages.{for_one}
use Rattle.import_pages.proofs.Asked.{arguing, formed, behind_form, behind_arguments}
use Rattle.import_pages.proofs.Known.{is-memory}
use Rattle.import_pages.proofs.page_conditions.to_import.Goals as goal

pub td_import-requires : goal.td_import-requires
td_import-requires c =
    let a = c.args in let range = c.in_ok-are_in_range.ensures.inside in
    (range.0, range.1, is-memory a.place.machine.pages (input_in a.input.now) a.slot (3 ∷ []) a.told.now.left.now refl (c.in_ok-input_of.ensures.goes a.place.machine.pages))

pub returns-in_err-are_in_range-clause-goes : goal.returns-in_err-are_in_range-clause-goes
returns-in_err-are_in_range-clause-goes c =
    let a = c.args in let m = a.place.machine in let x = input_in a.input.now in let e = c.in_err-are_in_range.field-0.0 in
    goes-stop m.pages (λ f. page_import_asked m x a.tdr a.slot a.page None (for_one f)) a.told.now.left.now a.told.now.left.now c.from_residual.result e
    (exit c.from_residual.result e _ c.from_residual.ensures.1 (λ y z. z))
    (λ f. c.in_err-are_in_range.ensures.goes (λ u. behind_arguments m x a.tdr a.slot a.page u f))

pub returns-in_err-input_of-clause-goes : goal.returns-in_err-input_of-clause-goes
returns-in_err-input_of-clause-goes c =
    let a = c.args in let m = a.place.machine in let x = input_in a.input.now in let e = c.in_err-input_of.field-0.0 in
    goes-stop m.pages (λ f. page_import_asked m x a.tdr a.slot a.page None (for_one f)) a.told.now.left.now a.told.now.left.now c.from_residual-in_err-input_of.result e
    (exit c.from_residual-in_err-input_of.result e _ c.from_residual-in_err-input_of.ensures.1 (λ y z. z))
    (λ f. c.in_ok-are_in_range.ensures.goes (λ u. behind_arguments m x a.tdr a.slot a.page u f) (Err e) (c.in_err-input_of.ensures.goes m.pages (λ u. behind_form m x a.tdr a.slot a.page u f)))

pub returns-clause-goes : goal.returns-clause-goes
returns-clause-goes c =
    let a = c.args in let m = a.place.machine in let x = input_in a.input.now in let before = a.told.now.left.now in let after = c.td_import.new.told.left.now in
    goes-on m.pages (arguing m x a.tdr a.slot a.page) (behind_arguments m x a.tdr a.slot a.page) before before after tt c.td_import.result c.in_ok-are_in_range.ensures.goes
    (goes-on m.pages (formed m x a.tdr a.slot a.page) (behind_form m x a.tdr a.slot a.page) before before after tt c.td_import.result (c.in_ok-input_of.ensures.goes m.pages)
    c.td_import.ensures.goes)

pub returns-clause-feeds : goal.returns-clause-feeds
returns-clause-feeds c =
    let a = c.args in let m = a.place.machine in let x = input_in a.input.now in let before = a.told.now.left.now in let after = c.td_import.new.told.left.now in
    feeds-on (arguing m x a.tdr a.slot a.page) (behind_arguments m x a.tdr a.slot a.page) before before after tt c.td_import.result c.in_ok-are_in_range.ensures.feeds
    (feeds-on (formed m x a.tdr a.slot a.page) (behind_form m x a.tdr a.slot a.page) before before after tt c.td_import.result c.in_ok-input_of.ensures.feeds
    c.td_import.ensures.feeds)
