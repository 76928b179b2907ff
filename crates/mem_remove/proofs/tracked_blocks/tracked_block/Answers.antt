use Rattle.leaf_parts.proofs.Parts.{exit}
use Rattle.mem_remove.proofs.TrackedDecided.{uncounted, counted, counted-fed}
use Rattle.mem_remove.proofs.tracked_blocks.tracked_block.Goals as goal

pub returns-in_err-count-clause-goes : goal.returns-in_err-count-clause-goes
returns-in_err-count-clause-goes c =
    uncounted c.args.place.machine.pages c.args.tdcs c.args.blocked c.args.told.now.left.now c.in_ok-epoch.epoch c.load.new.self.left.now c.in_ok-epoch.ensures c.if-blocked-epoch.true
    c.previous.new.told.left.now c.in_err-count.field-0.0 c.from_residual-in_err-count.result
    (exit c.from_residual-in_err-count.result c.in_err-count.field-0.0 _ c.from_residual-in_err-count.ensures.1 (λ y h. h)) c.in_err-count.ensures.goes

pub returns-in_ok-count-clause-goes : goal.returns-in_ok-count-clause-goes
returns-in_ok-count-clause-goes c =
    counted c.args.place.machine.pages c.args.tdcs c.args.blocked c.args.told.now.left.now c.in_ok-epoch.epoch c.load.new.self.left.now c.in_ok-epoch.ensures c.if-blocked-epoch.true
    c.previous.new.told.left.now c.in_ok-count.count c.check.result c.in_ok-count.ensures.goes c.check.ensures

pub returns-in_ok-count-clause-feeds : goal.returns-in_ok-count-clause-feeds
returns-in_ok-count-clause-feeds c =
    counted-fed c.args.place.machine.pages c.args.tdcs c.args.blocked c.args.told.now.left.now c.in_ok-epoch.epoch c.load.new.self.left.now c.in_ok-epoch.ensures c.if-blocked-epoch.true
    c.previous.new.told.left.now c.in_ok-count.count c.check.result c.in_ok-count.ensures.feeds c.check.ensures
