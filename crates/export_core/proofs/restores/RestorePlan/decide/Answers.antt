use Rattle.sept_walk.specs.SecureEpt.{index_at}
use Rattle.leaf_parts.proofs.Parts.{exit}
use Rattle.export_core.specs.RestoreTrees.{restored_changes, restore_task}
use Rattle.export_core.proofs.OpenedDecided.{by-tree}
use Rattle.export_core.proofs.restores.RestorePlan.decide.Goals as goal

pub returns-in_err-find_restored-clause-decides : goal.returns-in_err-find_restored-clause-decides
returns-in_err-find_restored-clause-decides c =
    rw (exit c.from_residual.result c.in_err-find_restored.field-0.0 _ c.from_residual.ensures.1 (λ y h. h)) c.in_err-find_restored.ensures.decides

pub returns-clause-decides : goal.returns-clause-decides
returns-clause-decides c =
    let l = c.args.self.now in
    rw c.done.ensures (by-tree l.place.machine.pages (restore_task l.place l.tdr l.gpa).tree c.args.told.left.now (restored_changes (index_at 0 l.gpa) c.in_ok-find_restored.field-0) c.in_ok-find_restored.ensures.decides)
