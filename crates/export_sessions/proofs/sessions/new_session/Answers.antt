use Rattle.std.proofs.Common.{rules}
use Rattle.leaf_parts.proofs.Parts.{exit}
use Rattle.export_sessions.proofs.Decided.{unrestored-goes, session-goes, session-feeds}
use Rattle.export_sessions.proofs.sessions.new_session.Goals as goal

pub returns-in_err-lock-clause-goes : goal.returns-in_err-lock-clause-goes
returns-in_err-lock-clause-goes c = search rules

pub returns-in_err-streams-clause-goes : goal.returns-in_err-streams-clause-goes
returns-in_err-streams-clause-goes c =
    unrestored-goes c.args.machine.pages c.args.tdcs c.args.told.now.left.now c.lock.new.self.left.now c.in_ok-lock.ensures.0 c.in_ok-lock.ensures.1 c.restored.new.told.left.now c.restored.new.told.left.now c.in_err-streams.field-0.0 c.from_residual-in_err-streams.result
    (exit c.from_residual-in_err-streams.result c.in_err-streams.field-0.0 _ c.from_residual-in_err-streams.ensures.1 (λ y h. h)) c.in_err-streams.ensures.goes

pub returns-clause-goes : goal.returns-clause-goes
returns-clause-goes c =
    session-goes c.args.machine.pages c.args.tdcs c.args.told.now.left.now c.lock.new.self.left.now c.in_ok-lock.ensures.0 c.in_ok-lock.ensures.1 c.restored.new.told.left.now c.number.new.told.left.now c.in_ok-streams.streams c.number.result
    c.in_ok-streams.ensures.goes c.number.ensures.goes

pub returns-clause-feeds : goal.returns-clause-feeds
returns-clause-feeds c =
    session-feeds c.args.machine.pages c.args.tdcs c.args.told.now.left.now c.lock.new.self.left.now c.in_ok-lock.ensures.0 c.in_ok-lock.ensures.1 c.restored.new.told.left.now c.number.new.told.left.now c.in_ok-streams.streams c.number.result
    c.in_ok-streams.ensures.feeds c.number.ensures.feeds
