use Rattle.std.specs.Prelude.{nat_lt}
use Rattle.td_words.specs.declared.names.Mode.TheVariants.{Shared}
use Rattle.td_words.specs.declared.refusals.Status.TheVariants.{OperandInvalid}
use Rattle.flat_core.specs.Conditions.{augmented_ops}
use Rattle.leaf_engine.specs.Trees.{Tree, needs}
use Rattle.leaf_parts.specs.declared.heads.Td.{Td}
use Rattle.leaf_parts.specs.Heads.{td_head_tree}
use Rattle.leaf_parts.proofs.Parts.{behind-stop, behind-go, passes, exit}
use Rattle.mem_remove.specs.TrackTrees.{track_rest}
use Rattle.mem_remove.proofs.trackings.TrackPlan.decide.Goals as goal

pub returns-in_err-td-clause-decides : goal.returns-in_err-td-clause-decides
returns-in_err-td-clause-decides c =
    let l = c.args.self.now in
    let m = l.place.machine in
    rw (exit c.from_residual-in_err-td.result c.in_err-td.field-0.0 _ c.from_residual-in_err-td.ensures.1 (λ y h. h))
    (behind-stop m.pages (λ t. needs (nat_lt l.tdr m.pages) (OperandInvalid 1) t) (λ t xs r d. passes m.pages (nat_lt l.tdr m.pages) (OperandInvalid 1) t xs r (rw c.from.ensures at c.in_ok-check.ensures) d)
    (λ (f : Td → Tree). td_head_tree m.pages l.tdr Shared augmented_ops f) (λ (td : Td). track_rest l.tdr td.tdcs)
    c.args.told.left.now c.td_head.new.told.left.now c.in_err-td.field-0.0 c.in_err-td.ensures.goes)

pub returns-clause-decides : goal.returns-clause-decides
returns-clause-decides c =
    let l = c.args.self.now in
    let m = l.place.machine in
    behind-go m.pages (λ t. needs (nat_lt l.tdr m.pages) (OperandInvalid 1) t) (λ t xs r d. passes m.pages (nat_lt l.tdr m.pages) (OperandInvalid 1) t xs r (rw c.from.ensures at c.in_ok-check.ensures) d)
    (λ (f : Td → Tree). td_head_tree m.pages l.tdr Shared augmented_ops f) (λ (td : Td). track_rest l.tdr td.tdcs)
    c.args.told.left.now c.td_head.new.told.left.now c.in_ok-td.td _ c.in_ok-td.ensures.goes (c.advance.ensures.decides l.tdr)
