use Rattle.mig_laws.proofs.Grows.{sources_go_on, destinations_follow, unforged_stays}
use Rattle.mig_laws.proofs.Hosts.{hosts_are_kept}
use Rattle.mig_laws.proofs.image.follow_law.Goals as goal

pub returns-clause-sources : goal.returns-clause-sources
returns-clause-sources c = sources_go_on

pub returns-clause-destinations : goal.returns-clause-destinations
returns-clause-destinations c = destinations_follow

pub returns-clause-unforged : goal.returns-clause-unforged
returns-clause-unforged c = unforged_stays

pub returns-clause-hosts : goal.returns-clause-hosts
returns-clause-hosts c = hosts_are_kept
