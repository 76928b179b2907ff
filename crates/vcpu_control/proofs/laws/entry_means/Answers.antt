use Rattle.vcpu_control.specs.EnterMeans.{entry-means}
use Rattle.vcpu_control.proofs.laws.entry_means.Goals as goal

pub returns : goal.returns
returns c = entry-means
