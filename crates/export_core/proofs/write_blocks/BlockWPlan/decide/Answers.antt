use Rattle.sept_walk.specs.SecureEpt.{index_at}
use Rattle.leaf_parts.proofs.Parts.{exit}
use Rattle.export_core.specs.WriteTrees.{blocking_changes, block_write_task}
use Rattle.export_core.proofs.OpenedDecided.{by-tree}
use Rattle.export_core.proofs.write_blocks.BlockWPlan.decide.Goals as goal

pub returns-in_err-block_write-clause-decides : goal.returns-in_err-block_write-clause-decides
returns-in_err-block_write-clause-decides c =
    rw (exit c.from_residual.result c.in_err-block_write.field-0.0 _ c.from_residual.ensures.1 (λ y h. h)) c.in_err-block_write.ensures.decides

pub returns-clause-decides : goal.returns-clause-decides
returns-clause-decides c =
    let l = c.args.self.now in
    rw c.done.ensures (by-tree l.place.machine.pages (block_write_task l.place l.tdr l.gpa).tree c.args.told.left.now (blocking_changes l.tdr (index_at 0 l.gpa) c.in_ok-block_write.field-0) c.in_ok-block_write.ensures.decides)
