use Rattle.flat_laws.proofs.Unreached.{closed-is-unreached, closed-is-unchanged, unreached-unchanged, closed-in-guarded, closed-in-runs, closed-is-not-accessed}
use Rattle.flat_laws.proofs.laws.reach_law.Goals as goal

pub returns-clause-unreached : goal.returns-clause-unreached
returns-clause-unreached c = closed-is-unreached

pub returns-clause-unchanged : goal.returns-clause-unchanged
returns-clause-unchanged c = closed-is-unchanged

pub returns-clause-both : goal.returns-clause-both
returns-clause-both c = unreached-unchanged

pub returns-clause-guarded : goal.returns-clause-guarded
returns-clause-guarded c = closed-in-guarded

pub returns-clause-run : goal.returns-clause-run
returns-clause-run c = closed-in-runs

pub returns-clause-accesses : goal.returns-clause-accesses
returns-clause-accesses c = closed-is-not-accessed
