use Rattle.td_words.specs.declared.names.Mode.TheVariants.{Shared}
use Rattle.td_words.specs.declared.replies.Value.{Value}
use Rattle.td_words.specs.declared.replies.Value.TheVariants as value
use Rattle.flat_core.specs.Conditions.{all_ops}
use Rattle.leaf_engine.specs.Trees.{Tree}
use Rattle.leaf_parts.specs.declared.heads.Td.{Td}
use Rattle.leaf_parts.specs.Heads.{td_head_tree}
use Rattle.leaf_parts.proofs.Parts.{goes-off, exit}
use Rattle.td_control.proofs.reads.op.Goals as goal

pub returns-in_err-td-clause-goes : goal.returns-in_err-td-clause-goes
returns-in_err-td-clause-goes c =
    goes-off c.args.place.machine.pages (λ (f : Td → Tree). td_head_tree c.args.place.machine.pages c.args.tdr Shared all_ops f) (λ (td : Td) (f : Value → Tree). f (value.Op td.op)) c.args.told.now.left.now c.td_head.new.told.left.now c.td_head.new.told.left.now c.in_err-td.field-0.0 c.from_residual.result
    (exit c.from_residual.result c.in_err-td.field-0.0 _ c.from_residual.ensures.1 (λ y h. h)) c.in_err-td.ensures.goes

pub returns-clause-goes : goal.returns-clause-goes
returns-clause-goes c = λ further r d. c.in_ok-td.ensures.goes (λ td. further (value.Op td.op)) r d
