use Rattle.std.proofs.Common.{nat_lt, refl, Err}
use Rattle.td_words.specs.declared.replies.Reply.TheVariants.{Done}
use Rattle.td_words.specs.declared.refusals.Status.TheVariants.{OperandInvalid}
use Rattle.leaf_engine.specs.Trees.{answers}
use Rattle.leaf_parts.proofs.Parts.{exit, passes}
use Rattle.td_control.specs.ReadTrees.{value_tree}
use Rattle.td_control.proofs.reads.RdPlan.decide.Goals as goal

pub returns-in_err-value-clause-decides : goal.returns-in_err-value-clause-decides
returns-in_err-value-clause-decides c =
    rw (exit c.from_residual-in_err-value.result c.in_err-value.field-0.0 _ c.from_residual-in_err-value.ensures.1 (λ y h. h))
    (passes c.args.self.now.place.machine.pages (nat_lt c.args.self.now.tdr c.args.self.now.place.machine.pages) (OperandInvalid 1) (value_tree c.args.self.now.place.machine.pages c.args.self.now.tdr c.args.self.now.field (λ v. answers (Done v)))
    c.args.told.left.now (Err c.in_err-value.field-0.0) (rw c.from.ensures at c.in_ok-check.ensures) (c.in_err-value.ensures.goes (λ v. answers (Done v))))

pub returns-clause-decides : goal.returns-clause-decides
returns-clause-decides c =
    passes c.args.self.now.place.machine.pages (nat_lt c.args.self.now.tdr c.args.self.now.place.machine.pages) (OperandInvalid 1) (value_tree c.args.self.now.place.machine.pages c.args.self.now.tdr c.args.self.now.field (λ v. answers (Done v)))
    c.args.told.left.now _ (rw c.from.ensures at c.in_ok-check.ensures) (c.in_ok-value.ensures.goes (λ v. answers (Done v)) _ (rw c.answer.ensures refl, refl))
