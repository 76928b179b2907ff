use Rattle.td_control.proofs.reads.value_read.Goals as goal

pub returns-in-Life-clause-goes : goal.returns-in-Life-clause-goes
returns-in-Life-clause-goes c = rw c.in-Life.is c.life.ensures.goes

pub returns-in-Op-clause-goes : goal.returns-in-Op-clause-goes
returns-in-Op-clause-goes c = rw c.in-Op.is c.op.ensures.goes

pub returns-in-Epoch-clause-goes : goal.returns-in-Epoch-clause-goes
returns-in-Epoch-clause-goes c = rw c.in-Epoch.is c.epoch.ensures.goes

pub returns-in-Mrtd-clause-goes : goal.returns-in-Mrtd-clause-goes
returns-in-Mrtd-clause-goes c = rw c.in-Mrtd.is c.mrtd.ensures.goes
