use Rattle.std.proofs.Common.{◌∙◌, ap, sym}
use Rattle.leaf_engine.specs.Trees.{answer_of}
use Rattle.leaf_table.specs.declared.leaves.AnyLeaf.{AnyLeaf}
use Rattle.leaf_table.specs.Leaves.{leaf_seen}
use Rattle.leaf_table.proofs.NoBundles.{bundle_plans-bare, extend-bare, sept-bare, import_td-bare, page_import-bare, report-unmade}
use Rattle.leaf_table.proofs.leaves.AnyLeaf.bundle.Goals as goal

pub returns-in-Extend : goal.returns-in-Extend
returns-in-Extend c =
    let l = c.in-Extend.field-0 in
    sym (ap (λ (z : AnyLeaf). (answer_of (leaf_seen z).rest).bundles) c.in-Extend.is ∙ (extend-bare l.place l.tdr l.gpa l.chunk l.told.items l.words.items).0)

pub returns-in-SeptRemove : goal.returns-in-SeptRemove
returns-in-SeptRemove c =
    let l = c.in-SeptRemove.field-0 in
    sym (ap (λ (z : AnyLeaf). (answer_of (leaf_seen z).rest).bundles) c.in-SeptRemove.is ∙ (sept-bare l.place l.tdr l.gpa l.level l.table l.seen l.used l.told.items l.later.items).0)

pub returns-in-ImportTd : goal.returns-in-ImportTd
returns-in-ImportTd c =
    let l = c.in-ImportTd.field-0 in
    sym (ap (λ (z : AnyLeaf). (answer_of (leaf_seen z).rest).bundles) c.in-ImportTd.is ∙ (import_td-bare l.place l.input l.tdr l.slot l.told.items).0)

pub returns-in-PageImport : goal.returns-in-PageImport
returns-in-PageImport c =
    let l = c.in-PageImport.field-0 in
    sym (ap (λ (z : AnyLeaf). (answer_of (leaf_seen z).rest).bundles) c.in-PageImport.is ∙ (page_import-bare l.place l.input l.tdr l.slot l.page l.importing l.told.items).0)

pub returns-in-Report : goal.returns-in-Report
returns-in-Report c =
    let l = c.in-Report.field-0 in
    sym (ap (λ (z : AnyLeaf). (answer_of (leaf_seen z).rest).bundles) c.in-Report.is ∙ report-unmade l.place l.tdr l.vp l.line l.told.items)

pub returns-in-ByBundle : goal.returns-in-ByBundle
returns-in-ByBundle c =
    let l = c.in-ByBundle.field-0 in
    sym (ap (λ (z : AnyLeaf). (answer_of (leaf_seen z).rest).bundles) c.in-ByBundle.is ∙ (bundle_plans-bare l.plan l.told.items).0)
