use Rattle.mem_remove.proofs.TrackedDecided.{behind-block}
use Rattle.mem_remove.proofs.tracked_blocks.tracked.Goals as goal

pub returns-clause-goes : goal.returns-clause-goes
returns-clause-goes c =
    behind-block c.args.place.machine.pages c.args.tdcs c.args.page c.in_ok-blocked.field-0 c.args.told.now.left.now c.load.new.self.left.now c.tracked_block.new.told.left.now c.tracked_block.result
    c.in_ok-blocked.ensures c.tracked_block.ensures.goes
