use Rattle.std.proofs.Common.{refl}
use Rattle.leaf_parts.proofs.Parts.{exit}
use Rattle.export_tokens.specs.TokenTrees.{token_end}
use Rattle.export_tokens.proofs.tokens.TokenPlan.decide.Goals as goal

pub returns-in_err-token-clause-decides : goal.returns-in_err-token-clause-decides
returns-in_err-token-clause-decides c =
    let l = c.args.self.now in
    rw (exit c.from_residual.result c.in_err-token.field-0.0 _ c.from_residual.ensures.1 (λ y h. h)) (c.in_err-token.ensures.goes (token_end l.slot l.start))

pub returns-clause-decides : goal.returns-clause-decides
returns-clause-decides c =
    let l = c.args.self.now in
    c.in_ok-token.ensures.goes (token_end l.slot l.start) _ (rw (c.done.ensures, c.from.ensures, c.from-2.ensures) (refl, refl))
