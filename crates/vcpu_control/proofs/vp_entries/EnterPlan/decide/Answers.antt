use Rattle.td_words.specs.declared.names.Mode.TheVariants.{Shared}
use Rattle.flat_core.specs.Conditions.{running_ops}
use Rattle.leaf_engine.specs.Trees.{Tree}
use Rattle.leaf_parts.specs.declared.heads.Td.{Td}
use Rattle.leaf_parts.specs.Arguments.{checked}
use Rattle.leaf_parts.specs.Heads.{td_head_tree}
use Rattle.leaf_parts.proofs.Arguments.{arguments-hold}
use Rattle.leaf_parts.proofs.Parts.{behind-stop, behind-go, exit}
use Rattle.vcpu_control.specs.EnterTrees.{enter_rest, entry_arguments}
use Rattle.vcpu_control.proofs.vp_entries.EnterPlan.decide.Goals as goal

pub returns-in_err-td-clause-decides : goal.returns-in_err-td-clause-decides
returns-in_err-td-clause-decides c =
    let l = c.args.self.now in
    rw (exit c.from_residual-in_err-td.result c.in_err-td.field-0.0 _ c.from_residual-in_err-td.ensures.1 (λ y h. h))
    (behind-stop l.place.machine.pages (checked (entry_arguments l.place.machine l.tdr l.vp l.most))
    (arguments-hold l.place.machine.pages (entry_arguments l.place.machine l.tdr l.vp l.most) (rw c.from.ensures at c.in_ok-check.ensures, (rw c.from-2.ensures at c.in_ok-check-2.ensures, (rw c.is_most.ensures at c.in_ok-check-3.ensures, (c.in_ok-check-4.ensures, tt)))))
    (λ (f : Td → Tree). td_head_tree l.place.machine.pages l.tdr Shared running_ops f) (λ (td : Td). enter_rest l.place.machine.pages l.place.lp l.tdr td.tdcs l.vp l.most) c.args.told.left.now c.td_head.new.told.left.now
    c.in_err-td.field-0.0 c.in_err-td.ensures.goes)

pub returns-clause-decides : goal.returns-clause-decides
returns-clause-decides c =
    let l = c.args.self.now in
    behind-go l.place.machine.pages (checked (entry_arguments l.place.machine l.tdr l.vp l.most))
    (arguments-hold l.place.machine.pages (entry_arguments l.place.machine l.tdr l.vp l.most) (rw c.from.ensures at c.in_ok-check.ensures, (rw c.from-2.ensures at c.in_ok-check-2.ensures, (rw c.is_most.ensures at c.in_ok-check-3.ensures, (c.in_ok-check-4.ensures, tt)))))
    (λ (f : Td → Tree). td_head_tree l.place.machine.pages l.tdr Shared running_ops f) (λ (td : Td). enter_rest l.place.machine.pages l.place.lp l.tdr td.tdcs l.vp l.most) c.args.told.left.now c.td_head.new.told.left.now
    c.in_ok-td.td _ c.in_ok-td.ensures.goes (c.enter_ready.ensures.decides l.most)
