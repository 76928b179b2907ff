use Rattle.std.proofs.Common.{refl}
use Rattle.leaf_engine.specs.Trees.{Tree}
use Rattle.td_words.specs.declared.refusals.Status.TheVariants.{LifecycleStateIncorrect}
use Rattle.leaf_parts.specs.Heads.{life_tree}
use Rattle.leaf_parts.proofs.Parts.{goes-check, feeds-check}
use Rattle.leaf_parts.proofs.heads.life_in.Goals as goal

pub returns-clause-goes : goal.returns-clause-goes
returns-clause-goes c =
    goes-check c.args.place.machine.pages (λ (f : Unit {0} → Tree). life_tree c.args.tdr c.args.allowed.now (f tt)) c.args.told.now.left.now c.load.new.self.left.now
    c.is_life_among.result (LifecycleStateIncorrect c.life_told-life.result) c.check.result tt
    (λ f v d. rw (c.in_ok-load.ensures) (rw (c.is_life_among.ensures, c.life_told-life.ensures) at d)) c.check.ensures

pub returns-clause-feeds : goal.returns-clause-feeds
returns-clause-feeds c =
    feeds-check (λ (f : Unit {0} → Tree). life_tree c.args.tdr c.args.allowed.now (f tt)) c.args.told.now.left.now c.load.new.self.left.now
    c.is_life_among.result (LifecycleStateIncorrect c.life_told-life.result) c.check.result
    (λ f. rw (c.in_ok-load.ensures, c.is_life_among.ensures, c.life_told-life.ensures) refl) c.check.ensures
