use Rattle.std.proofs.Common.{ℕ, ◌==◌}
use Rattle.td_words.specs.declared.names.HeaderField.TheVariants as field
use Rattle.td_words.specs.declared.refusals.Status.TheVariants.{BundleHeader}
use Rattle.flat_core.specs.Opening.{clear_header}
use Rattle.leaf_engine.specs.Trees.{Tree, needs}
use Rattle.leaf_parts.proofs.Parts.{goes-stop, feeds-check, exit}
use Rattle.import_parts.specs.InputTrees.{epoch_same_tree}
use Rattle.import_parts.proofs.dues.epoch_same.Goals as goal

abbrev tested : (epoch : ℕ) → (Unit {0} → Tree) → (told : ℕ) → Tree
tested epoch f told = needs (epoch == told) (BundleHeader field.Epoch) (f tt)

pub returns-in_err-epoch-clause-goes : goal.returns-in_err-epoch-clause-goes
returns-in_err-epoch-clause-goes c =
    let a = c.args in
    goes-stop a.machine.pages (λ (f : Unit {0} → Tree). epoch_same_tree a.tdcs (clear_header a.header.now) (f tt)) a.told.now.left.now c.mig_epoch.new.told.left.now c.from_residual.result c.in_err-epoch.field-0.0
    (exit c.from_residual.result c.in_err-epoch.field-0.0 _ c.from_residual.ensures.1 (λ y h. h)) (λ f. c.in_err-epoch.ensures.goes (tested a.header.now.epoch f))

pub returns-clause-feeds : goal.returns-clause-feeds
returns-clause-feeds c =
    let a = c.args in
    feeds-check (λ (f : Unit {0} → Tree). epoch_same_tree a.tdcs (clear_header a.header.now) (f tt)) a.told.now.left.now c.mig_epoch.new.told.left.now (a.header.now.epoch == c.in_ok-epoch.epoch) (BundleHeader field.Epoch) c.check.result
    (λ f. c.in_ok-epoch.ensures.feeds (tested a.header.now.epoch f)) c.check.ensures
