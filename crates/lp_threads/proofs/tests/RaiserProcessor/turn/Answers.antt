use Rattle.std.proofs.Common.{[], ◌∷◌, arith}
use Rattle.leaf_engine.specs.OwnLists.{Marked}
use Rattle.lp_threads.proofs.tests.RaiserProcessor.turn.Goals as goal

pub returns-clause-turned : goal.returns-clause-turned
returns-clause-turned g c = ((Marked _ ∷ [], c.perform.ensures.did, (let some = c.if-self-eq0.false in omega arith)), (let some = c.if-self-eq0.false in omega arith))
