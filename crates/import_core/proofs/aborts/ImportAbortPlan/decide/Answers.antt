use Rattle.std.proofs.Common.{refl}
use Rattle.leaf_parts.proofs.Parts.{exit}
use Rattle.import_core.specs.AbortTrees.{abort_end}
use Rattle.import_core.proofs.aborts.ImportAbortPlan.decide.Goals as goal

pub returns-in_err-words-clause-decides : goal.returns-in_err-words-clause-decides
returns-in_err-words-clause-decides c =
    let l = c.args.self.now in
    rw (exit c.from_residual.result c.in_err-words.field-0.0 _ c.from_residual.ensures.1 (λ y h. h)) (c.in_err-words.ensures.goes (abort_end l.slot))

pub returns-clause-decides : goal.returns-clause-decides
returns-clause-decides c =
    let l = c.args.self.now in
    c.in_ok-words.ensures.goes (abort_end l.slot) _ (rw c.done.ensures (refl, refl))
