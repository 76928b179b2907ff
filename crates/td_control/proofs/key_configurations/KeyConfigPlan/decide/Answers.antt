use Rattle.std.proofs.Common.{[], ◌∷◌, nat_lt, refl, Err}
use Rattle.td_words.specs.declared.names.LifeState.TheVariants as life
use Rattle.td_words.specs.declared.refusals.Status.TheVariants.{OperandInvalid}
use Rattle.td_words.specs.declared.replies.Value.TheVariants as value
use Rattle.td_words.specs.declared.replies.Reply.TheVariants.{Done}
use Rattle.td_control.specs.KeyTrees.{configure_changes}
use Rattle.leaf_engine.specs.Trees.{Tree, acts}
use Rattle.leaf_parts.specs.Heads.{tdr_head_tree}
use Rattle.leaf_parts.proofs.Parts.{exit, passes}
use Rattle.td_control.proofs.key_configurations.KeyConfigPlan.decide.Goals as goal

pub returns-in_err-tdr_head-clause-decides : goal.returns-in_err-tdr_head-clause-decides
returns-in_err-tdr_head-clause-decides c =
    let rest : Tree = acts (Done value.Nothing) (configure_changes c.args.self.now.tdr) in
    rw (exit c.from_residual-in_err-tdr_head.result c.in_err-tdr_head.field-0.0 _ c.from_residual-in_err-tdr_head.ensures.1 (λ y h. h))
    (passes c.args.self.now.place.machine.pages (nat_lt c.args.self.now.tdr c.args.self.now.place.machine.pages) (OperandInvalid 1) (tdr_head_tree c.args.self.now.tdr (life.HkidAssigned ∷ []) rest) c.args.told.left.now
    (Err c.in_err-tdr_head.field-0.0) (rw c.from.ensures at c.in_ok-check.ensures) (c.in_err-tdr_head.ensures.goes (λ u. rest)))

pub returns-clause-decides : goal.returns-clause-decides
returns-clause-decides c =
    let rest : Tree = acts (Done value.Nothing) (configure_changes c.args.self.now.tdr) in
    passes c.args.self.now.place.machine.pages (nat_lt c.args.self.now.tdr c.args.self.now.place.machine.pages) (OperandInvalid 1) (tdr_head_tree c.args.self.now.tdr (life.HkidAssigned ∷ []) rest) c.args.told.left.now
    _ (rw c.from.ensures at c.in_ok-check.ensures) (c.in_ok-tdr_head.ensures.goes (λ u. rest) _ (rw c.done.ensures (refl, refl)))
