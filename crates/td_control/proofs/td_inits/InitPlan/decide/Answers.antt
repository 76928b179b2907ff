use Rattle.std.proofs.Common.{[], ◌∷◌, nat_lt, refl, Err}
use Rattle.td_words.specs.declared.names.Mode.TheVariants.{Exclusive}
use Rattle.td_words.specs.declared.names.OpState.TheVariants.{Uninitialized}
use Rattle.td_words.specs.declared.refusals.Status.TheVariants.{OperandInvalid}
use Rattle.leaf_parts.specs.Heads.{td_head_tree}
use Rattle.leaf_parts.proofs.Parts.{exit, passes}
use Rattle.td_control.specs.InitTrees.{begin_tree}
use Rattle.td_control.proofs.td_inits.InitPlan.decide.Goals as goal

pub returns-in_err-td-clause-decides : goal.returns-in_err-td-clause-decides
returns-in_err-td-clause-decides c =
    rw (exit c.from_residual-in_err-td.result c.in_err-td.field-0.0 _ c.from_residual-in_err-td.ensures.1 (λ y h. h))
    (passes c.args.self.now.place.machine.pages (nat_lt c.args.self.now.tdr c.args.self.now.place.machine.pages) (OperandInvalid 1) (td_head_tree c.args.self.now.place.machine.pages c.args.self.now.tdr Exclusive (Uninitialized ∷ []) (λ td. begin_tree c.args.self.now.place.machine c.args.self.now.tdr td.tdcs)) c.args.told.left.now (Err c.in_err-td.field-0.0) (rw c.from.ensures at c.in_ok-check.ensures) (c.in_err-td.ensures.goes (λ td. begin_tree c.args.self.now.place.machine c.args.self.now.tdr td.tdcs)))

pub returns-in_err-hkid-clause-decides : goal.returns-in_err-hkid-clause-decides
returns-in_err-hkid-clause-decides c =
    rw (exit c.from_residual-in_err-hkid.result c.in_err-hkid.field-0.0 _ c.from_residual-in_err-hkid.ensures.1 (λ y h. h))
    (passes c.args.self.now.place.machine.pages (nat_lt c.args.self.now.tdr c.args.self.now.place.machine.pages) (OperandInvalid 1) (td_head_tree c.args.self.now.place.machine.pages c.args.self.now.tdr Exclusive (Uninitialized ∷ []) (λ td. begin_tree c.args.self.now.place.machine c.args.self.now.tdr td.tdcs)) c.args.told.left.now (Err c.in_err-hkid.field-0.0) (rw c.from.ensures at c.in_ok-check.ensures)
    (c.in_ok-td.ensures.goes (λ td. begin_tree c.args.self.now.place.machine c.args.self.now.tdr td.tdcs) (Err c.in_err-hkid.field-0.0) (rw (c.in_err-hkid.ensures.0, c.in_err-hkid.ensures.1, c.word_address.ensures) refl)))

pub returns-clause-decides : goal.returns-clause-decides
returns-clause-decides c =
    passes c.args.self.now.place.machine.pages (nat_lt c.args.self.now.tdr c.args.self.now.place.machine.pages) (OperandInvalid 1) (td_head_tree c.args.self.now.place.machine.pages c.args.self.now.tdr Exclusive (Uninitialized ∷ []) (λ td. begin_tree c.args.self.now.place.machine c.args.self.now.tdr td.tdcs)) c.args.told.left.now _ (rw c.from.ensures at c.in_ok-check.ensures)
    (c.in_ok-td.ensures.goes (λ td. begin_tree c.args.self.now.place.machine c.args.self.now.tdr td.tdcs) _ (rw (c.in_ok-hkid.ensures, c.done.ensures) (refl, refl)))
