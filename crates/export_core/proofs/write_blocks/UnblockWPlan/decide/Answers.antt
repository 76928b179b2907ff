use Rattle.sept_walk.specs.SecureEpt.{index_at}
use Rattle.leaf_parts.proofs.Parts.{exit}
use Rattle.export_core.specs.WriteTrees.{unblocking_changes, unblock_write_task}
use Rattle.export_core.proofs.OpenedDecided.{by-tree}
use Rattle.export_core.proofs.write_blocks.UnblockWPlan.decide.Goals as goal

pub returns-in_err-unblock_write-clause-decides : goal.returns-in_err-unblock_write-clause-decides
returns-in_err-unblock_write-clause-decides c =
    rw (exit c.from_residual.result c.in_err-unblock_write.field-0.0 _ c.from_residual.ensures.1 (λ y h. h)) c.in_err-unblock_write.ensures.decides

pub returns-clause-decides : goal.returns-clause-decides
returns-clause-decides c =
    let l = c.args.self.now in
    rw c.done.ensures (by-tree l.place.machine.pages (unblock_write_task l.place l.tdr l.gpa).tree c.args.told.left.now (unblocking_changes (index_at 0 l.gpa) c.in_ok-unblock_write.field-0) c.in_ok-unblock_write.ensures.decides)
