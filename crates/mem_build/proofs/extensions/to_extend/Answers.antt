use Rattle.std.proofs.Common.{refl, ◌∙◌, Err}
use Rattle.leaf_parts.proofs.Parts.{exit}
use Rattle.mem_build.specs.ExtendTrees.{mapped_tree, measured_tree}
use Rattle.mem_build.proofs.ExtendDecided.{argued, argued-fed}
use Rattle.mem_build.proofs.extensions.to_extend.Goals as goal

pub returns-in_err-td-clause-comes : goal.returns-in_err-td-clause-comes
returns-in_err-td-clause-comes c =
    rw (exit c.from_residual-in_err-td.result c.in_err-td.field-0.0 _ c.from_residual-in_err-td.ensures.1 (λ y h. h))
    (argued c.args.place.machine.pages c.args.place.machine c.args.tdr c.args.gpa (rw c.from.ensures at c.in_ok-check.ensures) c.in_ok-check-2.ensures c.in_ok-check-3.ensures c.args.told.now.left.now (Err c.in_err-td.field-0.0)
    (c.in_err-td.ensures.goes (λ td. mapped_tree c.args.place.machine.pages c.args.tdr td.tdcs c.args.gpa (measured_tree c.args.place.machine c.args.tdr c.args.gpa))))

pub returns-in_err-page-clause-comes : goal.returns-in_err-page-clause-comes
returns-in_err-page-clause-comes c =
    rw (exit c.from_residual-in_err-page.result c.in_err-page.field-0.0 _ c.from_residual-in_err-page.ensures.1 (λ y h. h))
    (argued c.args.place.machine.pages c.args.place.machine c.args.tdr c.args.gpa (rw c.from.ensures at c.in_ok-check.ensures) c.in_ok-check-2.ensures c.in_ok-check-3.ensures c.args.told.now.left.now (Err c.in_err-page.field-0.0)
    (c.in_ok-td.ensures.goes (λ td. mapped_tree c.args.place.machine.pages c.args.tdr td.tdcs c.args.gpa (measured_tree c.args.place.machine c.args.tdr c.args.gpa)) (Err c.in_err-page.field-0.0)
    (c.in_err-page.ensures.goes (measured_tree c.args.place.machine c.args.tdr c.args.gpa))))

pub returns-in_err-hkid-clause-comes : goal.returns-in_err-hkid-clause-comes
returns-in_err-hkid-clause-comes c =
    rw (exit c.from_residual-in_err-hkid.result c.in_err-hkid.field-0.0 _ c.from_residual-in_err-hkid.ensures.1 (λ y h. h))
    (argued c.args.place.machine.pages c.args.place.machine c.args.tdr c.args.gpa (rw c.from.ensures at c.in_ok-check.ensures) c.in_ok-check-2.ensures c.in_ok-check-3.ensures c.args.told.now.left.now (Err c.in_err-hkid.field-0.0)
    (c.in_ok-td.ensures.goes (λ td. mapped_tree c.args.place.machine.pages c.args.tdr td.tdcs c.args.gpa (measured_tree c.args.place.machine c.args.tdr c.args.gpa)) (Err c.in_err-hkid.field-0.0)
    (c.in_ok-page.ensures.goes (measured_tree c.args.place.machine c.args.tdr c.args.gpa) (Err c.in_err-hkid.field-0.0)
    (rw (c.in_err-hkid.ensures.0, c.in_err-hkid.ensures.1, c.word_address.ensures) refl))))

pub returns-clause-comes : goal.returns-clause-comes
returns-clause-comes c =
    argued-fed c.args.place.machine.pages c.args.place.machine c.args.tdr c.args.gpa (rw c.from.ensures at c.in_ok-check.ensures) c.in_ok-check-2.ensures c.in_ok-check-3.ensures c.args.told.now.left.now
    ∙ (c.in_ok-td.ensures.feeds (λ td. mapped_tree c.args.place.machine.pages c.args.tdr td.tdcs c.args.gpa (measured_tree c.args.place.machine c.args.tdr c.args.gpa))
    ∙ (c.in_ok-page.ensures.feeds (measured_tree c.args.place.machine c.args.tdr c.args.gpa)
    ∙ rw c.in_ok-hkid.ensures refl))
