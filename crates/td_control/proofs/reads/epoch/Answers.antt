use Rattle.std.proofs.Common.{refl, Err}
use Rattle.td_words.specs.declared.names.Mode.TheVariants.{Shared}
use Rattle.td_words.specs.declared.replies.Value.{Value}
use Rattle.flat_core.specs.Conditions.{begun_ops}
use Rattle.leaf_engine.specs.Trees.{Tree}
use Rattle.leaf_parts.specs.declared.heads.Td.{Td}
use Rattle.leaf_parts.specs.Heads.{td_head_tree}
use Rattle.leaf_parts.proofs.Parts.{goes-stop, goes-off, exit}
use Rattle.td_control.specs.ReadTrees.{epoch_word_tree, epoch_tree}
use Rattle.td_control.proofs.reads.epoch.Goals as goal

pub returns-in_err-td-clause-goes : goal.returns-in_err-td-clause-goes
returns-in_err-td-clause-goes c =
    goes-off c.args.place.machine.pages (λ (f : Td → Tree). td_head_tree c.args.place.machine.pages c.args.tdr Shared begun_ops f) (λ (td : Td) (f : Value → Tree). epoch_word_tree c.args.tdr td.tdcs f) c.args.told.now.left.now c.td_head.new.told.left.now c.td_head.new.told.left.now c.in_err-td.field-0.0 c.from_residual.result
    (exit c.from_residual.result c.in_err-td.field-0.0 _ c.from_residual.ensures.1 (λ y h. h)) c.in_err-td.ensures.goes

pub returns-in_err-lock-clause-goes : goal.returns-in_err-lock-clause-goes
returns-in_err-lock-clause-goes c =
    goes-stop c.args.place.machine.pages (λ (f : Value → Tree). epoch_tree c.args.place.machine.pages c.args.tdr f) c.args.told.now.left.now c.lock.new.self.left.now c.from_residual-in_err-lock.result c.in_err-lock.field-0.0
    (exit c.from_residual-in_err-lock.result c.in_err-lock.field-0.0 _ c.from_residual-in_err-lock.ensures.1 (λ y h. h))
    (λ f. c.in_ok-td.ensures.goes (λ td. epoch_word_tree c.args.tdr td.tdcs f) (Err c.in_err-lock.field-0.0) (rw (c.in_err-lock.ensures.0, c.in_err-lock.ensures.1, c.word_address-at.ensures) refl))

pub returns-in_err-epoch-clause-goes : goal.returns-in_err-epoch-clause-goes
returns-in_err-epoch-clause-goes c =
    goes-stop c.args.place.machine.pages (λ (f : Value → Tree). epoch_tree c.args.place.machine.pages c.args.tdr f) c.args.told.now.left.now c.load.new.self.left.now c.from_residual-in_err-epoch.result c.in_err-epoch.field-0.0
    (exit c.from_residual-in_err-epoch.result c.in_err-epoch.field-0.0 _ c.from_residual-in_err-epoch.ensures.1 (λ y h. h))
    (λ f. c.in_ok-td.ensures.goes (λ td. epoch_word_tree c.args.tdr td.tdcs f) (Err c.in_err-epoch.field-0.0) (rw (c.in_ok-lock.ensures.1, c.in_err-epoch.ensures.0, c.in_err-epoch.ensures.1, c.word_address.ensures) refl))

pub returns-clause-goes : goal.returns-clause-goes
returns-clause-goes c = λ further r d. c.in_ok-td.ensures.goes (λ td. epoch_word_tree c.args.tdr td.tdcs further) r (rw (c.in_ok-lock.ensures.1, c.in_ok-epoch.ensures) d)
