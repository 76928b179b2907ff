use Rattle.std.proofs.Common.{ℕ, subst, refl}
use Rattle.leaf_engine.specs.Decides.{HandsAt}
use Rattle.leaf_engine.proofs.Decided.{decided-changes, decided-none}
use Rattle.export_core.specs.WriteTrees.{blocking_changes, block_write_task}
use Rattle.export_core.proofs.write_blocks.BlockWPlan.write.Goals as goal

pub returns-in-Ok-clause-hands : goal.returns-in-Ok-clause-hands
returns-in-Ok-clause-hands c =
    let l = c.args.self.now in
    let h = c.args._hand.now in
    rw (decided-changes l.place.machine.pages (block_write_task l.place l.tdr l.gpa).tree c.args.told.now _ c.in-Ok.ensures.decides)
    (subst (λ (i : ℕ). HandsAt l.place.machine (blocking_changes l.tdr i c.in-Ok.blocking) c.args.number h h c.write.result) c.index-at.ensures.index (c.write.ensures.hands h))

pub returns-in-Err-clause-hands : goal.returns-in-Err-clause-hands
returns-in-Err-clause-hands c =
    let l = c.args.self.now in
    rw (decided-none l.place.machine.pages (block_write_task l.place l.tdr l.gpa).tree c.args.told.now _ c.in-Err.ensures.decides) (refl, refl)
