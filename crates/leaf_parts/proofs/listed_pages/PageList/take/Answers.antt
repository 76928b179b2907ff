use Rattle.std.proofs.Common.{[]}
use Rattle.leaf_engine.specs.Trees.{done}
use Rattle.leaf_parts.specs.ListTrees.{list_changes}
use Rattle.leaf_parts.proofs.Parts.{exit}
use Rattle.leaf_parts.proofs.listed_pages.PageList.take.Goals as goal

pub returns-in_err-children-clause-decides : goal.returns-in_err-children-clause-decides
returns-in_err-children-clause-decides c =
    λ list same.
    rw (exit c.from_residual.result c.in_err-children.field-0.0 _ c.from_residual.ensures.1 (λ y h. h))
    (c.in_err-children.ensures.goes (λ children. done [] (list_changes c.args.self c.args.place.machine.pages c.args.tdr c.args.page c.args.count children)))
