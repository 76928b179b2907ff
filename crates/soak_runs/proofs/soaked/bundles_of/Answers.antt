use Rattle.std.proofs.Common.{rules}
use Rattle.soak_runs.proofs.soaked.bundles_of.Goals as goal

pub returns-in-Ok-clause-order : goal.returns-in-Ok-clause-order
returns-in-Ok-clause-order c = (c.containers_read_again.ensures.read_from c.args.container.now c.in-Ok.bundles.items (search rules) c.in-Ok.ensures).1
