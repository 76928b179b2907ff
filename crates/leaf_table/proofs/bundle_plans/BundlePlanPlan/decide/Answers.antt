use Rattle.leaf_table.proofs.bundle_plans.BundlePlanPlan.decide.Goals as goal

pub returns-in-ImportToken-clause-decides : goal.returns-in-ImportToken-clause-decides
returns-in-ImportToken-clause-decides c = rw (c.in-ImportToken.is) c.decide.ensures.decides

pub returns-in-AbortByToken-clause-decides : goal.returns-in-AbortByToken-clause-decides
returns-in-AbortByToken-clause-decides c = rw (c.in-AbortByToken.is) c.decide-in-AbortByToken.ensures.decides

pub returns-in-ImportImmutable-clause-decides : goal.returns-in-ImportImmutable-clause-decides
returns-in-ImportImmutable-clause-decides c = rw (c.in-ImportImmutable.is) c.decide-in-ImportImmutable.ensures.decides

pub returns-in-ImportVp-clause-decides : goal.returns-in-ImportVp-clause-decides
returns-in-ImportVp-clause-decides c = rw (c.in-ImportVp.is) c.decide-in-ImportVp.ensures.decides
