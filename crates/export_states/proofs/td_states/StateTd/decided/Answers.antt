use Rattle.export_states.proofs.td_states.StateTd.decided.Goals as goal

pub returns-in-Ok-clause-decides : goal.returns-in-Ok-clause-decides
returns-in-Ok-clause-decides c = (let l = c.args.self.now in rw c.as_slice.ensures.value at (c.in-Ok.ensures.comes l.slot).1)

pub returns-in-Err-clause-decides : goal.returns-in-Err-clause-decides
returns-in-Err-clause-decides c = (let l = c.args.self.now in rw c.as_slice.ensures.value at (c.in-Err.ensures.comes l.slot))
