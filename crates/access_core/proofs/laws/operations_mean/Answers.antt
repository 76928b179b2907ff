use Rattle.access_core.specs.OperationMeanings.{set-means, add-means, vmcall-means, shared_load-means, shared_store-means}
use Rattle.access_core.specs.RtmrMeanings.{rtmr-means}
use Rattle.access_core.specs.ReportMeanings.{report-means}
use Rattle.access_core.specs.AcceptMeanings.{accept-means}
use Rattle.access_core.specs.WalkMeanings.{walks-mean, walks-are-told}
use Rattle.access_core.specs.ReachMeanings.{accesses-mean}
use Rattle.access_core.proofs.laws.operations_mean.Goals as goal

pub returns-clause-set : goal.returns-clause-set
returns-clause-set c = set-means

pub returns-clause-add : goal.returns-clause-add
returns-clause-add c = add-means

pub returns-clause-vmcall : goal.returns-clause-vmcall
returns-clause-vmcall c = vmcall-means

pub returns-clause-load : goal.returns-clause-load
returns-clause-load c = shared_load-means

pub returns-clause-store : goal.returns-clause-store
returns-clause-store c = shared_store-means

pub returns-clause-rtmr : goal.returns-clause-rtmr
returns-clause-rtmr c = rtmr-means

pub returns-clause-report : goal.returns-clause-report
returns-clause-report c = report-means

pub returns-clause-accept : goal.returns-clause-accept
returns-clause-accept c = accept-means

pub returns-clause-walk : goal.returns-clause-walk
returns-clause-walk c = walks-mean

pub returns-clause-access : goal.returns-clause-access
returns-clause-access c = accesses-mean

pub returns-clause-told : goal.returns-clause-told
returns-clause-told c = walks-are-told
