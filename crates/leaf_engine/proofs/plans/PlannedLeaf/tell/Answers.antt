use Rattle.std.proofs.Common.{sym, ◌∷◌, []}
use Rattle.leaf_engine.proofs.Decided.{feed-append}
use Rattle.leaf_engine.proofs.plans.PlannedLeaf.tell.Goals as goal

pub returns-clause-rest : goal.returns-clause-rest
returns-clause-rest g c = rw c.push.ensures.items (sym (feed-append (g.P.Plan.task c.args.self.now.plan).tree c.args.self.now.told.items (c.args.word ∷ [])))

pub invariant_of-self-clause-known : goal.invariant_of-self-clause-known
invariant_of-self-clause-known g c = tt
