use Rattle.std.proofs.Common.{Err, refl}
use Rattle.leaf_parts.proofs.Parts.{exit}
use Rattle.mem_remove.specs.RemoveTrees.{given_tree}
use Rattle.mem_remove.proofs.removals.remove.Goals as goal

pub returns-in_err-tracked-clause-decides : goal.returns-in_err-tracked-clause-decides
returns-in_err-tracked-clause-decides c = λ index.
    rw (exit c.from_residual.result c.in_err-tracked.field-0.0 _ c.from_residual.ensures.1 (λ y h. h))
    (c.in_err-tracked.ensures.goes (λ u. given_tree c.args.tdr c.args.at index c.args.page))

pub returns-in_err-children-clause-decides : goal.returns-in_err-children-clause-decides
returns-in_err-children-clause-decides c = λ index.
    let e = c.in_err-children.field-0.0 in
    let h = rw c.word_address.ensures at c.in_err-children.ensures in
    rw (exit c.from_residual-in_err-children.result e _ c.from_residual-in_err-children.ensures.1 (λ y h. h))
    (c.in_ok-tracked.ensures.goes (λ u. given_tree c.args.tdr c.args.at index c.args.page) (Err e) (rw (h.0, h.1) refl))

pub returns-clause-decides : goal.returns-clause-decides
returns-clause-decides c = λ index.
    c.in_ok-tracked.ensures.goes (λ u. given_tree c.args.tdr c.args.at index c.args.page) _ (rw (c.in_ok-children.ensures, c.done.ensures) (refl, refl))
