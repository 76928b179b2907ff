use Rattle.std.proofs.Common.{ℕ, ◌==◌, not, ◌∙◌}
use Rattle.td_words.specs.declared.refusals.Status.TheVariants.{ExportedThisEpoch}
use Rattle.leaf_engine.specs.Trees.{Tree, needs}
use Rattle.leaf_parts.proofs.Parts.{goes-off, feed-passes, exit}
use Rattle.stream_parts.specs.Rooms.{mig_epoch_tree}
use Rattle.mem_remove.specs.declared.named_entries.Named.{Named}
use Rattle.export_pages.specs.PageExportStages.{named_of}
use Rattle.export_pages.proofs.page_conditions.other_epoch.Goals as goal

abbrev testing : Named → ℕ → (ℕ → Tree) → Tree
testing n epoch f = needs (not (n.entry.mark == epoch)) ExportedThisEpoch (f epoch)

pub returns-in_err-epoch-clause-goes : goal.returns-in_err-epoch-clause-goes
returns-in_err-epoch-clause-goes c =
    let a = c.args in let e = c.in_err-epoch.field-0.0 in
    goes-off a.machine.pages (λ (f : ℕ → Tree). mig_epoch_tree a.entry.tdcs f) (testing (named_of a.entry)) a.told.now.left.now c.mig_epoch.new.told.left.now c.mig_epoch.new.told.left.now e c.from_residual.result
    (exit c.from_residual.result e _ c.from_residual.ensures.1 (λ y h. h)) c.in_err-epoch.ensures.goes

pub returns-clause-feeds : goal.returns-clause-feeds
returns-clause-feeds c = λ f.
    let n = named_of c.args.entry in let epoch = c.in_ok-epoch.epoch in
    c.in_ok-epoch.ensures.feeds (λ y. testing n y f)
    ∙ feed-passes (not (n.entry.mark == epoch)) ExportedThisEpoch (f epoch) c.mig_epoch.new.told.left.now c.in_ok-check.ensures
