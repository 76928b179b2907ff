use Rattle.std.proofs.Common.{◌∙◌, ap, sym}
use Rattle.leaf_engine.specs.Besides.{reported}
use Rattle.leaf_engine.specs.Trees.{answer_of}
use Rattle.leaf_table.specs.declared.leaves.AnyLeaf.{AnyLeaf}
use Rattle.leaf_table.specs.Leaves.{leaf_seen}
use Rattle.leaf_table.proofs.NoBundles.{plans-quiet, bundle_plans-bare, extend-bare, sept-bare, state_td-quiet, page_export-quiet, import_td-bare, page_import-bare}
use Rattle.leaf_table.proofs.leaves.AnyLeaf.facts.Goals as goal

pub returns-in-ByPlan : goal.returns-in-ByPlan
returns-in-ByPlan c =
    let l = c.in-ByPlan.field-0 in
    sym (ap (λ (z : AnyLeaf). reported (answer_of (leaf_seen z).rest).notes) c.in-ByPlan.is ∙ plans-quiet l.plan l.told.items)

pub returns-in-Extend : goal.returns-in-Extend
returns-in-Extend c =
    let l = c.in-Extend.field-0 in
    sym (ap (λ (z : AnyLeaf). reported (answer_of (leaf_seen z).rest).notes) c.in-Extend.is ∙ (extend-bare l.place l.tdr l.gpa l.chunk l.told.items l.words.items).1)

pub returns-in-SeptRemove : goal.returns-in-SeptRemove
returns-in-SeptRemove c =
    let l = c.in-SeptRemove.field-0 in
    sym (ap (λ (z : AnyLeaf). reported (answer_of (leaf_seen z).rest).notes) c.in-SeptRemove.is ∙ (sept-bare l.place l.tdr l.gpa l.level l.table l.seen l.used l.told.items l.later.items).1)

pub returns-in-StateTd : goal.returns-in-StateTd
returns-in-StateTd c =
    let l = c.in-StateTd.field-0 in
    sym (ap (λ (z : AnyLeaf). reported (answer_of (leaf_seen z).rest).notes) c.in-StateTd.is ∙ state_td-quiet l.place l.tdr l.slot l.told.items)

pub returns-in-PageExport : goal.returns-in-PageExport
returns-in-PageExport c =
    let l = c.in-PageExport.field-0 in
    sym (ap (λ (z : AnyLeaf). reported (answer_of (leaf_seen z).rest).notes) c.in-PageExport.is ∙ page_export-quiet l.place l.tdr l.gpa l.stream l.slot l.exporting l.told.items l.words)

pub returns-in-ImportTd : goal.returns-in-ImportTd
returns-in-ImportTd c =
    let l = c.in-ImportTd.field-0 in
    sym (ap (λ (z : AnyLeaf). reported (answer_of (leaf_seen z).rest).notes) c.in-ImportTd.is ∙ (import_td-bare l.place l.input l.tdr l.slot l.told.items).1)

pub returns-in-PageImport : goal.returns-in-PageImport
returns-in-PageImport c =
    let l = c.in-PageImport.field-0 in
    sym (ap (λ (z : AnyLeaf). reported (answer_of (leaf_seen z).rest).notes) c.in-PageImport.is ∙ (page_import-bare l.place l.input l.tdr l.slot l.page l.importing l.told.items).1)

pub returns-in-ByBundle : goal.returns-in-ByBundle
returns-in-ByBundle c =
    let l = c.in-ByBundle.field-0 in
    sym (ap (λ (z : AnyLeaf). reported (answer_of (leaf_seen z).rest).notes) c.in-ByBundle.is ∙ (bundle_plans-bare l.plan l.told.items).1)
