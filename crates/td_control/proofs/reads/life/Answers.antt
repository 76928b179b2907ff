use Rattle.std.proofs.Common.{refl, Err}
use Rattle.td_words.specs.declared.names.Mode.TheVariants.{Shared}
use Rattle.td_words.specs.declared.replies.Value.{Value}
use Rattle.td_words.specs.declared.replies.Value.TheVariants as value
use Rattle.td_words.specs.declared.places.TheConstants.{TDR_LIFE}
use Rattle.td_words.specs.Place as place
use Rattle.word_rules.specs.Rules.{Whole}
use Rattle.leaf_engine.specs.Trees.{Tree, Load}
use Rattle.leaf_parts.specs.Words.{life_told}
use Rattle.leaf_parts.specs.Heads.{root_tree}
use Rattle.leaf_parts.proofs.Parts.{goes-stop, goes-off, exit}
use Rattle.td_control.specs.ReadTrees.{life_tree}
use Rattle.td_control.proofs.reads.life.Goals as goal

pub returns-in_err-root-clause-goes : goal.returns-in_err-root-clause-goes
returns-in_err-root-clause-goes c =
    goes-off c.args.place.machine.pages (λ (f : Unit {0} → Tree). root_tree c.args.tdr Shared (f tt)) (λ (u : Unit {0}) (f : Value → Tree). Load Whole (place.Word c.args.tdr TDR_LIFE) (λ life. f (value.Life (life_told life)))) c.args.told.now.left.now c.root.new.told.left.now c.root.new.told.left.now c.in_err-root.field-0.0 c.from_residual.result
    (exit c.from_residual.result c.in_err-root.field-0.0 _ c.from_residual.ensures.1 (λ y h. h)) c.in_err-root.ensures.goes

pub returns-in_err-life-clause-goes : goal.returns-in_err-life-clause-goes
returns-in_err-life-clause-goes c =
    goes-stop c.args.place.machine.pages (λ (f : Value → Tree). life_tree c.args.tdr f) c.args.told.now.left.now c.load.new.self.left.now c.from_residual-in_err-life.result c.in_err-life.field-0.0
    (exit c.from_residual-in_err-life.result c.in_err-life.field-0.0 _ c.from_residual-in_err-life.ensures.1 (λ y h. h))
    (λ f. c.in_ok-root.ensures.goes (λ u. Load Whole (place.Word c.args.tdr TDR_LIFE) (λ life. f (value.Life (life_told life)))) (Err c.in_err-life.field-0.0) (rw (c.in_err-life.ensures.0, c.in_err-life.ensures.1, c.word_address.ensures) refl))

pub returns-clause-goes : goal.returns-clause-goes
returns-clause-goes c = λ further r d. c.in_ok-root.ensures.goes (λ u. Load Whole (place.Word c.args.tdr TDR_LIFE) (λ life. further (value.Life (life_told life)))) r (rw c.in_ok-life.ensures (rw c.life_told.ensures at d))
