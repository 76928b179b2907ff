use Rattle.std.proofs.Common.{ℕ, nat_lt, [], refl}
use Rattle.td_words.specs.declared.names.Mode.TheVariants.{Exclusive}
use Rattle.td_words.specs.declared.names.OpState.TheVariants.{Runnable}
use Rattle.td_words.specs.declared.refusals.Status.TheVariants.{OperandInvalid}
use Rattle.flat_core.specs.ImportRows.{late_ops}
use Rattle.leaf_engine.specs.Trees.{Tree, needs, done}
use Rattle.leaf_parts.specs.declared.heads.Td.{Td}
use Rattle.leaf_parts.specs.Heads.{td_head_tree}
use Rattle.leaf_parts.proofs.Parts.{passes, behind-stop, behind-go, exit}
use Rattle.stream_parts.specs.AloneTrees.{op_changes}
use Rattle.import_core.proofs.commits.ImportEndPlan.decide.Goals as goal

pub returns-in_err-td-clause-decides : goal.returns-in_err-td-clause-decides
returns-in_err-td-clause-decides c =
    let l = c.args.self.now in
    let n : ℕ = l.place.machine.pages in
    rw (exit c.from_residual-in_err-td.result c.in_err-td.field-0.0 _ c.from_residual-in_err-td.ensures.1 (λ y h. h))
    (behind-stop n (λ x. needs (nat_lt l.tdr n) (OperandInvalid 1) x) (λ x xs r d. passes n (nat_lt l.tdr n) (OperandInvalid 1) x xs r (rw c.from.ensures at c.in_ok-check.ensures) d)
    (λ (f : Td → Tree). td_head_tree n l.tdr Exclusive late_ops f) (λ (td : Td). done [] (op_changes Runnable td.tdcs)) c.args.told.left.now c.td_head.new.told.left.now c.in_err-td.field-0.0 c.in_err-td.ensures.goes)

pub returns-clause-decides : goal.returns-clause-decides
returns-clause-decides c =
    let l = c.args.self.now in
    let n : ℕ = l.place.machine.pages in
    behind-go n (λ x. needs (nat_lt l.tdr n) (OperandInvalid 1) x) (λ x xs r d. passes n (nat_lt l.tdr n) (OperandInvalid 1) x xs r (rw c.from.ensures at c.in_ok-check.ensures) d)
    (λ (f : Td → Tree). td_head_tree n l.tdr Exclusive late_ops f) (λ (td : Td). done [] (op_changes Runnable td.tdcs)) c.args.told.left.now c.td_head.new.told.left.now c.in_ok-td.td _ c.in_ok-td.ensures.goes (rw c.done.ensures (refl, refl))
