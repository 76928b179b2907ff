use Rattle.flat_laws.proofs.Accesses.{are-own, keep-others, others-are-not-reached}
use Rattle.flat_laws.proofs.laws.access_law.Goals as goal

pub returns-clause-own : goal.returns-clause-own
returns-clause-own c = are-own

pub returns-clause-alone : goal.returns-clause-alone
returns-clause-alone c = keep-others

pub returns-clause-others : goal.returns-clause-others
returns-clause-others c = others-are-not-reached
