use Rattle.export_states.proofs.vp_states.StateVpPlan.decide.Goals as goal

pub returns-in-Ok-clause-decides : goal.returns-in-Ok-clause-decides
returns-in-Ok-clause-decides c = rw c.done.ensures c.in-Ok.ensures.comes.1

pub returns-in-Err-clause-decides : goal.returns-in-Err-clause-decides
returns-in-Err-clause-decides c = c.in-Err.ensures.comes
