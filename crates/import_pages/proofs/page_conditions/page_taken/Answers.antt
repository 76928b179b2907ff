use Rattle.std.proofs.Common.{ℕ, [], Some}
use Rattle.leaf_engine.specs.Trees.{Tree}
use Rattle.leaf_parts.proofs.Parts.{goes-stop, exit}
use Rattle.import_pages.specs.declared.page_imports.Filling.{Filling}
use Rattle.import_pages.specs.PageImportTrees.{taken_tree}
use Rattle.import_pages.proofs.page_conditions.page_taken.Goals as goal

pub returns-in_err-children-clause-goes : goal.returns-in_err-children-clause-goes
returns-in_err-children-clause-goes c =
    let a = c.args in let e = c.in_err-children.field-0.0 in
    goes-stop a.place.machine.pages (λ (f : Filling → Tree). taken_tree a.tdr [] a.page a.at f) a.told.now.left.now c.taken_page.new.told.left.now c.from_residual.result e
    (exit c.from_residual.result e _ c.from_residual.ensures.1 (λ y z. z))
    (λ f. c.in_err-children.ensures.goes (λ (n : ℕ). f (record { at = a.at; page = a.page; children = Some n })))

pub returns-clause-feeds : goal.returns-clause-feeds
returns-clause-feeds c = λ f. (let a = c.args in c.in_ok-children.ensures.feeds (λ (n : ℕ). f (record { at = a.at; page = a.page; children = Some n })))
