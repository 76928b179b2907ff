use Rattle.leaf_table.specs.Given.{given_in}
use Rattle.leaf_dispatch.proofs.Taking.{begins-kept}
use Rattle.leaf_dispatch.proofs.running.begin_where_none.Goals as goal

pub returns-in-Some-clause-takes : goal.returns-in-Some-clause-takes
returns-in-Some-clause-takes c = begins-kept (given_in c.args.given) c.args.kept.now c.requires.takes
