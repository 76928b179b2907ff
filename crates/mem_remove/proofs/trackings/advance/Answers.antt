use Rattle.leaf_parts.proofs.Parts.{exit}
use Rattle.mem_remove.proofs.TrackDecided.{behind_lock, is-last, is-uncounted, is-busy, is-left}
use Rattle.mem_remove.proofs.trackings.advance.Goals as goal

pub returns-in_err-epoch_lock-clause-decides : goal.returns-in_err-epoch_lock-clause-decides
returns-in_err-epoch_lock-clause-decides c = λ t.
    rw (exit c.from_residual.result c.in_err-epoch_lock.field-0.0 _ c.from_residual.ensures.1 (λ y h. h))
    (c.in_err-epoch_lock.ensures.goes t (behind_lock c.args.tdcs))

pub returns-in_err-check-clause-decides : goal.returns-in_err-check-clause-decides
returns-in_err-check-clause-decides c = λ t.
    rw (exit c.from_residual-in_err-check.result c.in_err-check.field-0.0 _ c.from_residual-in_err-check.ensures.1 (λ y h. h))
    (is-last c.args.place.machine.pages t c.args.tdcs c.args.told.left.now c.epoch_lock.new.told.left.now c.load.new.self.left.now c.in_ok-epoch_lock.field-0 (c.in_ok-epoch_lock.ensures.goes t)
    c.in_ok-epoch.epoch c.in_ok-epoch.ensures c.in_err-check.field-0.0 c.in_err-check.ensures.0 c.in_err-check.ensures.1)

pub returns-in_err-count-clause-decides : goal.returns-in_err-count-clause-decides
returns-in_err-count-clause-decides c = λ t.
    rw (exit c.from_residual-in_err-count.result c.in_err-count.field-0.0 _ c.from_residual-in_err-count.ensures.1 (λ y h. h))
    (is-uncounted c.args.place.machine.pages t c.args.tdcs c.args.told.left.now c.epoch_lock.new.told.left.now c.load.new.self.left.now c.in_ok-epoch_lock.field-0 (c.in_ok-epoch_lock.ensures.goes t)
    c.in_ok-epoch.epoch c.in_ok-epoch.ensures c.in_ok-check.ensures c.previous.new.told.left.now c.in_err-count.field-0.0 c.in_err-count.ensures.goes)

pub returns-in_err-check-2-clause-decides : goal.returns-in_err-check-2-clause-decides
returns-in_err-check-2-clause-decides c = λ t.
    rw (exit c.from_residual-in_err-check-2.result c.in_err-check-2.field-0.0 _ c.from_residual-in_err-check-2.ensures.1 (λ y h. h))
    (is-busy c.args.place.machine.pages t c.args.tdcs c.args.told.left.now c.epoch_lock.new.told.left.now c.load.new.self.left.now c.in_ok-epoch_lock.field-0 (c.in_ok-epoch_lock.ensures.goes t)
    c.in_ok-epoch.epoch c.in_ok-epoch.ensures c.in_ok-check.ensures c.previous.new.told.left.now c.in_ok-count.count c.in_ok-count.ensures.goes c.in_err-check-2.field-0.0 c.in_err-check-2.ensures.0 c.in_err-check-2.ensures.1)

pub returns-clause-decides : goal.returns-clause-decides
returns-clause-decides c = λ t.
    rw c.done.ensures
    (is-left c.args.place.machine.pages t c.args.tdcs c.args.told.left.now c.epoch_lock.new.told.left.now c.load.new.self.left.now c.in_ok-epoch_lock.field-0 (c.in_ok-epoch_lock.ensures.goes t)
    c.in_ok-epoch.epoch c.in_ok-epoch.ensures c.in_ok-check.ensures c.previous.new.told.left.now c.in_ok-count.count c.in_ok-count.ensures.goes c.in_ok-check-2.ensures)
