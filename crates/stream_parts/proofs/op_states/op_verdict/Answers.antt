use Rattle.std.proofs.Common.{ℕ, nat_lt, [], refl}
use Rattle.td_words.specs.declared.refusals.Status.TheVariants.{OperandInvalid}
use Rattle.leaf_engine.specs.Trees.{Tree, needs, done}
use Rattle.leaf_parts.proofs.Parts.{passes, behind-stop, behind-go, exit}
use Rattle.stream_parts.specs.AloneTrees.{td_alone_tree, op_changes}
use Rattle.stream_parts.proofs.op_states.op_verdict.Goals as goal

pub returns-in_err-tdcs-clause-decides : goal.returns-in_err-tdcs-clause-decides
returns-in_err-tdcs-clause-decides c = λ next.
    let a = c.args in
    let n : ℕ = a.place.machine.pages in
    rw (exit c.from_residual-in_err-tdcs.result c.in_err-tdcs.field-0.0 _ c.from_residual-in_err-tdcs.ensures.1 (λ y h. h))
    (behind-stop n (λ x. needs (nat_lt a.tdr n) (OperandInvalid 1) x) (λ x xs r d. passes n (nat_lt a.tdr n) (OperandInvalid 1) x xs r (rw c.from.ensures at c.in_ok-check.ensures) d)
    (λ (f : ℕ → Tree). td_alone_tree n a.tdr a.allowed.now f) (λ d. done [] (op_changes next d)) a.told.left.now c.td_alone.new.told.left.now c.in_err-tdcs.field-0.0 c.in_err-tdcs.ensures.goes)

pub returns-clause-decides : goal.returns-clause-decides
returns-clause-decides c = λ next.
    let a = c.args in
    let n : ℕ = a.place.machine.pages in
    behind-go n (λ x. needs (nat_lt a.tdr n) (OperandInvalid 1) x) (λ x xs r d. passes n (nat_lt a.tdr n) (OperandInvalid 1) x xs r (rw c.from.ensures at c.in_ok-check.ensures) d)
    (λ (f : ℕ → Tree). td_alone_tree n a.tdr a.allowed.now f) (λ d. done [] (op_changes next d)) a.told.left.now c.td_alone.new.told.left.now c.in_ok-tdcs.tdcs _ c.in_ok-tdcs.ensures.goes (rw c.done.ensures (refl, refl))
