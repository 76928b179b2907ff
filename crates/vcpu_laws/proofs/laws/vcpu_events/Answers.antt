use Rattle.vcpu_laws.proofs.Vcpus.{events_change_vcpus}
use Rattle.vcpu_laws.proofs.laws.vcpu_events.Goals as goal

pub returns : goal.returns
returns c = events_change_vcpus
