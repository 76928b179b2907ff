use Rattle.td_words.specs.declared.names.Mode.TheVariants.{Exclusive}
use Rattle.leaf_engine.specs.Trees.{Tree}
use Rattle.leaf_parts.specs.Heads.{root_tree, life_tree}
use Rattle.leaf_parts.proofs.Parts.{goes-on, goes-off, exit}
use Rattle.leaf_parts.proofs.heads.tdr_head.Goals as goal

pub returns-in_err-root-clause-goes : goal.returns-in_err-root-clause-goes
returns-in_err-root-clause-goes c =
    goes-off c.args.place.machine.pages (λ (f : Unit {0} → Tree). root_tree c.args.tdr Exclusive (f tt)) (λ (y : Unit {0}). λ (f : Unit {0} → Tree). life_tree c.args.tdr c.args.allowed.now (f tt)) c.args.told.now.left.now c.root.new.told.left.now c.root.new.told.left.now c.in_err-root.field-0.0 c.from_residual.result (exit c.from_residual.result c.in_err-root.field-0.0 _ c.from_residual.ensures.1 (λ y h. h)) c.in_err-root.ensures.goes

pub returns-clause-goes : goal.returns-clause-goes
returns-clause-goes c =
    goes-on c.args.place.machine.pages (λ (f : Unit {0} → Tree). root_tree c.args.tdr Exclusive (f tt)) (λ (y : Unit {0}). λ (f : Unit {0} → Tree). life_tree c.args.tdr c.args.allowed.now (f tt)) c.args.told.now.left.now c.root.new.told.left.now c.life_in.new.told.left.now tt c.life_in.result
    c.in_ok-root.ensures.goes
    (c.life_in.ensures.goes)
