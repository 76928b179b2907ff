use Rattle.vcpu_control.specs.ExitMeans.{exit-means}
use Rattle.vcpu_control.proofs.laws.exit_means.Goals as goal

pub returns : goal.returns
returns c = exit-means
