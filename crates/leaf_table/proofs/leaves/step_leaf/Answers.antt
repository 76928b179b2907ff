use Rattle.std.proofs.Common.{◌∙◌, ap}
use Rattle.leaf_engine.specs.Means.{Task}
use Rattle.leaf_engine.specs.Guests.{Operates}
use Rattle.leaf_table.specs.Given.{given_in}
use Rattle.leaf_table.proofs.Calls.{step-place}
use Rattle.leaf_table.proofs.leaves.step_leaf.Goals as goal

pub returns-in-Operates-clause-place : goal.returns-in-Operates-clause-place
returns-in-Operates-clause-place c =
    ap (λ (t : Task). t.place) c.operation_leaf.ensures.task ∙ step-place (given_in c.args.given) c.args.place c.args.tdr c.args.vp c.args.line (Operates c.in-Operates.operation)
