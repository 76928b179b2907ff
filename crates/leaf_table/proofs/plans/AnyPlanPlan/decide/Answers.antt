use Rattle.leaf_table.proofs.plans.AnyPlanPlan.decide.Goals as goal

pub returns-in-Create-clause-decides : goal.returns-in-Create-clause-decides
returns-in-Create-clause-decides c = rw (c.in-Create.is) c.decide-in-Create.ensures.decides

pub returns-in-Finalize-clause-decides : goal.returns-in-Finalize-clause-decides
returns-in-Finalize-clause-decides c = rw (c.in-Finalize.is) c.decide-in-Finalize.ensures.decides

pub returns-in-FlushDone-clause-decides : goal.returns-in-FlushDone-clause-decides
returns-in-FlushDone-clause-decides c = rw (c.in-FlushDone.is) c.decide-in-FlushDone.ensures.decides

pub returns-in-FreeId-clause-decides : goal.returns-in-FreeId-clause-decides
returns-in-FreeId-clause-decides c = rw (c.in-FreeId.is) c.decide-in-FreeId.ensures.decides

pub returns-in-Reclaim-clause-decides : goal.returns-in-Reclaim-clause-decides
returns-in-Reclaim-clause-decides c = rw (c.in-Reclaim.is) c.decide-in-Reclaim.ensures.decides

pub returns-in-SeptAdd-clause-decides : goal.returns-in-SeptAdd-clause-decides
returns-in-SeptAdd-clause-decides c = rw (c.in-SeptAdd.is) c.decide-in-SeptAdd.ensures.decides

pub returns-in-SeptRd-clause-decides : goal.returns-in-SeptRd-clause-decides
returns-in-SeptRd-clause-decides c = rw (c.in-SeptRd.is) c.decide-in-SeptRd.ensures.decides

pub returns-in-PageRemove-clause-decides : goal.returns-in-PageRemove-clause-decides
returns-in-PageRemove-clause-decides c = rw (c.in-PageRemove.is) c.decide-in-PageRemove.ensures.decides

pub returns-in-PageRelocate-clause-decides : goal.returns-in-PageRelocate-clause-decides
returns-in-PageRelocate-clause-decides c = rw (c.in-PageRelocate.is) c.decide-in-PageRelocate.ensures.decides

pub returns-in-RangeBlock-clause-decides : goal.returns-in-RangeBlock-clause-decides
returns-in-RangeBlock-clause-decides c = rw (c.in-RangeBlock.is) c.decide-in-RangeBlock.ensures.decides

pub returns-in-RangeUnblock-clause-decides : goal.returns-in-RangeUnblock-clause-decides
returns-in-RangeUnblock-clause-decides c = rw (c.in-RangeUnblock.is) c.decide-in-RangeUnblock.ensures.decides

pub returns-in-BlockW-clause-decides : goal.returns-in-BlockW-clause-decides
returns-in-BlockW-clause-decides c = rw (c.in-BlockW.is) c.decide-in-BlockW.ensures.decides

pub returns-in-UnblockW-clause-decides : goal.returns-in-UnblockW-clause-decides
returns-in-UnblockW-clause-decides c = rw (c.in-UnblockW.is) c.decide-in-UnblockW.ensures.decides

pub returns-in-Pause-clause-decides : goal.returns-in-Pause-clause-decides
returns-in-Pause-clause-decides c = rw (c.in-Pause.is) c.decide-in-Pause.ensures.decides

pub returns-in-Abort-clause-decides : goal.returns-in-Abort-clause-decides
returns-in-Abort-clause-decides c = rw (c.in-Abort.is) c.decide-in-Abort.ensures.decides

pub returns-in-Restore-clause-decides : goal.returns-in-Restore-clause-decides
returns-in-Restore-clause-decides c = rw (c.in-Restore.is) c.decide-in-Restore.ensures.decides

pub returns-in-Immutable-clause-decides : goal.returns-in-Immutable-clause-decides
returns-in-Immutable-clause-decides c = rw (c.in-Immutable.is) c.decide-in-Immutable.ensures.decides

pub returns-in-Commit-clause-decides : goal.returns-in-Commit-clause-decides
returns-in-Commit-clause-decides c = rw (c.in-Commit.is) c.decide-in-Commit.ensures.decides

pub returns-in-ImportEnd-clause-decides : goal.returns-in-ImportEnd-clause-decides
returns-in-ImportEnd-clause-decides c = rw (c.in-ImportEnd.is) c.decide-in-ImportEnd.ensures.decides

pub returns-in-ImportAbort-clause-decides : goal.returns-in-ImportAbort-clause-decides
returns-in-ImportAbort-clause-decides c = rw (c.in-ImportAbort.is) c.decide-in-ImportAbort.ensures.decides
