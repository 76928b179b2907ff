use Rattle.command_files.proofs.Containers.{container_in_order}
use Rattle.command_files.proofs.inputs.bundles_of.Goals as goal

pub returns-in-Ok-clause-order : goal.returns-in-Ok-clause-order
returns-in-Ok-clause-order c = container_in_order c.args.bytes.now c.in-Ok.bundles.items c.in-Ok.ensures
