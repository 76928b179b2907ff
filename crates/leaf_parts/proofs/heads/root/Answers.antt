use Rattle.std.proofs.Common.{refl}
use Rattle.leaf_engine.specs.Trees.{Tree}
use Rattle.td_words.specs.declared.names.PageKind.TheVariants as kind
use Rattle.td_words.specs.declared.refusals.Status.TheVariants.{PageMetadataIncorrect}
use Rattle.leaf_parts.specs.Words.{says_kind}
use Rattle.leaf_parts.specs.Heads.{root_tree}
use Rattle.leaf_parts.proofs.Parts.{goes-stop, goes-check, exit}
use Rattle.leaf_parts.proofs.heads.root.Goals as goal

pub returns-in_err-lock-clause-goes : goal.returns-in_err-lock-clause-goes
returns-in_err-lock-clause-goes c =
    goes-stop c.args.place.machine.pages (λ (f : Unit {0} → Tree). root_tree c.args.tdr c.args.mode (f tt)) c.args.told.now.left.now c.lock.new.self.left.now c.from_residual.result c.in_err-lock.field-0.0
    (exit c.from_residual.result c.in_err-lock.field-0.0 _ c.from_residual.ensures.1 (λ y h. h))
    (λ f. rw (c.in_err-lock.ensures.0, c.in_err-lock.ensures.1, c.lock_address.ensures) refl)

pub returns-in_err-pamt-clause-goes : goal.returns-in_err-pamt-clause-goes
returns-in_err-pamt-clause-goes c =
    goes-stop c.args.place.machine.pages (λ (f : Unit {0} → Tree). root_tree c.args.tdr c.args.mode (f tt)) c.args.told.now.left.now c.load.new.self.left.now c.from_residual-in_err-pamt.result c.in_err-pamt.field-0.0
    (exit c.from_residual-in_err-pamt.result c.in_err-pamt.field-0.0 _ c.from_residual-in_err-pamt.ensures.1 (λ y h. h))
    (λ f. rw (c.in_ok-lock.ensures.1, c.in_err-pamt.ensures.0, c.in_err-pamt.ensures.1, c.pamt_address.ensures) refl)

pub returns-clause-goes : goal.returns-clause-goes
returns-clause-goes c =
    goes-check c.args.place.machine.pages (λ (f : Unit {0} → Tree). root_tree c.args.tdr c.args.mode (f tt)) c.args.told.now.left.now c.load.new.self.left.now
    (says_kind kind.Tdr c.in_ok-pamt.pamt) (PageMetadataIncorrect c.args.tdr) c.check.result tt
    (λ f v d. rw (c.in_ok-lock.ensures.1, c.in_ok-pamt.ensures) d) (rw c.says_kind.ensures at c.check.ensures)
