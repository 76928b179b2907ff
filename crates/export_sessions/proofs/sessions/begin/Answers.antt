use Rattle.leaf_parts.proofs.Parts.{exit}
use Rattle.export_sessions.proofs.Decided.{headless, begun-goes, begun-feeds}
use Rattle.export_sessions.proofs.sessions.begin.Goals as goal

pub returns-in_err-td-clause-goes : goal.returns-in_err-td-clause-goes
returns-in_err-td-clause-goes c =
    headless c.args.place.machine c.args.tdr (rw c.from.ensures at c.in_ok-check.ensures) c.args.told.now.left.now c.td_head.new.told.left.now c.td_head.new.told.left.now c.from_residual-in_err-td.result c.in_err-td.field-0.0
    (exit c.from_residual-in_err-td.result c.in_err-td.field-0.0 _ c.from_residual-in_err-td.ensures.1 (λ y h. h)) c.in_err-td.ensures.goes

pub returns-clause-goes : goal.returns-clause-goes
returns-clause-goes c =
    begun-goes c.args.place.machine c.args.tdr (rw c.from.ensures at c.in_ok-check.ensures) c.args.told.now.left.now c.td_head.new.told.left.now c.new_session.new.told.left.now c.new_session.result c.in_ok-td.td c.in_ok-td.ensures.goes c.new_session.ensures.goes

pub returns-clause-feeds : goal.returns-clause-feeds
returns-clause-feeds c =
    begun-feeds c.args.place.machine c.args.tdr (rw c.from.ensures at c.in_ok-check.ensures) c.args.told.now.left.now c.td_head.new.told.left.now c.new_session.new.told.left.now c.new_session.result c.in_ok-td.td c.in_ok-td.ensures.feeds c.new_session.ensures.feeds
