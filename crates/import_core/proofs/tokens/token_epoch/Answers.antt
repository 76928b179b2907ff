use Rattle.std.proofs.Common.{ℕ, ◌==◌}
use Rattle.td_words.specs.declared.names.HeaderField.TheVariants as field
use Rattle.td_words.specs.declared.refusals.Status.TheVariants.{BundleHeader}
use Rattle.flat_core.specs.World.{ClearHeader}
use Rattle.flat_core.specs.Opening.{clear_header}
use Rattle.flat_core.specs.ImportRows.{is_start, epoch_due}
use Rattle.leaf_engine.specs.Trees.{Tree, needs}
use Rattle.leaf_parts.proofs.Parts.{goes-stop, goes-check, exit}
use Rattle.import_core.specs.TokenTrees.{token_epoch_tree}
use Rattle.import_core.proofs.tokens.token_epoch.Goals as goal

abbrev tested : ClearHeader → (Unit {0} → Tree) → (told : ℕ) → Tree
tested h f told = needs (h.epoch == epoch_due (is_start h) told) (BundleHeader field.Epoch) (f tt)

pub returns-in_err-epoch-clause-goes : goal.returns-in_err-epoch-clause-goes
returns-in_err-epoch-clause-goes c =
    let a = c.args in
    let h : ClearHeader = clear_header a.header.now in
    goes-stop a.machine.pages (λ (f : Unit {0} → Tree). token_epoch_tree a.tdcs h (f tt)) a.told.now.left.now c.mig_epoch.new.told.left.now c.from_residual.result c.in_err-epoch.field-0.0
    (exit c.from_residual.result c.in_err-epoch.field-0.0 _ c.from_residual.ensures.1 (λ y z. z)) (λ f. c.in_err-epoch.ensures.goes (tested h f))

pub returns-clause-goes : goal.returns-clause-goes
returns-clause-goes c =
    let a = c.args in
    let h : ClearHeader = clear_header a.header.now in
    goes-check a.machine.pages (λ (f : Unit {0} → Tree). token_epoch_tree a.tdcs h (f tt)) a.told.now.left.now c.mig_epoch.new.told.left.now (h.epoch == epoch_due (is_start h) c.in_ok-epoch.epoch) (BundleHeader field.Epoch) c.check.result tt
    (λ f v d. c.in_ok-epoch.ensures.goes (tested h f) v d) (rw (c.from.ensures, c.epoch_due.ensures) at c.check.ensures)
