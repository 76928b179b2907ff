use Rattle.std.proofs.Common.{◌∙◌, ap, sym}
use Rattle.leaf_table.specs.BundlePlans.{plan_input, task_with}
use Rattle.leaf_table.specs.Leaves.{seen_with}
use Rattle.leaf_table.proofs.Inputs.{planned-same, td-same, page-same}
use Rattle.leaf_table.proofs.leaves.AnyLeaf.with_input.Goals as goal

pub returns-in-ByBundle-clause-seen : goal.returns-in-ByBundle-clause-seen
returns-in-ByBundle-clause-seen c = λ b.
    planned-same _ _ _ _ _ _ _ _ (ap (task_with b) c.resumed.ensures.plan ∙ c.with_input.ensures.task b ∙ ap (task_with b) c.into_parts-plan.ensures.plan)
    (λ i. ((c.resumed.ensures.told ∙ c.into_parts-plan.ensures.told) i).items) (c.resumed.ensures.written.0 ∙ c.into_parts-plan.ensures.written.0) (c.resumed.ensures.written.1 ∙ c.into_parts-plan.ensures.written.1)
    ∙ sym (ap (seen_with b) c.in-ByBundle.is)

pub returns-in-ImportTd-clause-seen : goal.returns-in-ImportTd-clause-seen
returns-in-ImportTd-clause-seen c = λ b.
    let w = c.with_input-in-ImportTd in
    td-same b w.result c.in-ImportTd.leaf w.ensures.call w.ensures.input.0 w.ensures.progress ∙ sym (ap (seen_with b) c.in-ImportTd.is)

pub returns-in-PageImport-clause-seen : goal.returns-in-PageImport-clause-seen
returns-in-PageImport-clause-seen c = λ b.
    let w = c.with_input-in-PageImport in
    page-same b w.result c.in-PageImport.leaf w.ensures.call w.ensures.input.0 w.ensures.progress ∙ sym (ap (seen_with b) c.in-PageImport.is)

pub returns-in-ByBundle-clause-input : goal.returns-in-ByBundle-clause-input
returns-in-ByBundle-clause-input c = λ some. ap plan_input c.resumed.ensures.plan ∙ c.with_input.ensures.input.1
