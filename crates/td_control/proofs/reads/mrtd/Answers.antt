use Rattle.std.proofs.Common.{ℕ, List}
use Rattle.td_words.specs.declared.names.Mode.TheVariants.{Shared}
use Rattle.td_words.specs.declared.replies.Value.{Value}
use Rattle.td_words.specs.declared.replies.Value.TheVariants as value
use Rattle.flat_core.specs.Conditions.{later_ops}
use Rattle.flat_core.specs.Digests.{digest_bytes}
use Rattle.leaf_engine.specs.Trees.{Tree}
use Rattle.leaf_parts.specs.declared.heads.Td.{Td}
use Rattle.leaf_parts.specs.Heads.{td_head_tree}
use Rattle.leaf_parts.proofs.Parts.{goes-on, goes-off, exit}
use Rattle.td_control.specs.ReadTrees.{words_tree}
use Rattle.td_control.proofs.reads.mrtd.Goals as goal

pub returns-in_err-td-clause-goes : goal.returns-in_err-td-clause-goes
returns-in_err-td-clause-goes c =
    goes-off c.args.place.machine.pages (λ (f : Td → Tree). td_head_tree c.args.place.machine.pages c.args.tdr Shared later_ops f) (λ (td : Td) (f : Value → Tree). words_tree td.tdcs (λ words. f (value.Digest (digest_bytes words)))) c.args.told.now.left.now c.td_head.new.told.left.now c.td_head.new.told.left.now c.in_err-td.field-0.0 c.from_residual.result
    (exit c.from_residual.result c.in_err-td.field-0.0 _ c.from_residual.ensures.1 (λ y h. h)) c.in_err-td.ensures.goes

pub returns-in_err-words-clause-goes : goal.returns-in_err-words-clause-goes
returns-in_err-words-clause-goes c =
    goes-on c.args.place.machine.pages (λ (f : Td → Tree). td_head_tree c.args.place.machine.pages c.args.tdr Shared later_ops f) (λ (td : Td) (f : Value → Tree). words_tree td.tdcs (λ words. f (value.Digest (digest_bytes words)))) c.args.told.now.left.now c.td_head.new.told.left.now c.mrtd_words.new.told.left.now c.in_ok-td.td c.from_residual-in_err-words.result
    c.in_ok-td.ensures.goes
    (goes-off c.args.place.machine.pages (λ (f : List ℕ → Tree). words_tree c.in_ok-td.td.tdcs f) (λ (words : List ℕ) (f : Value → Tree). f (value.Digest (digest_bytes words))) c.td_head.new.told.left.now c.mrtd_words.new.told.left.now c.mrtd_words.new.told.left.now c.in_err-words.field-0.0 c.from_residual-in_err-words.result
    (exit c.from_residual-in_err-words.result c.in_err-words.field-0.0 _ c.from_residual-in_err-words.ensures.1 (λ y h. h)) c.in_err-words.ensures.goes)

pub returns-clause-goes : goal.returns-clause-goes
returns-clause-goes c = λ further r d.
    c.in_ok-td.ensures.goes (λ td. words_tree td.tdcs (λ words. further (value.Digest (digest_bytes words)))) r
    (c.in_ok-words.ensures.goes (λ words. further (value.Digest (digest_bytes words))) r (rw c.digest.ensures at d))
