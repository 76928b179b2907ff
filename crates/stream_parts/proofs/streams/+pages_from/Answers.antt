use Rattle.std.proofs.Common.{◌-◌, arith}
use Rattle.leaf_parts.proofs.Parts.{exit}
use Rattle.stream_parts.proofs.StreamSums.{goes-failed, goes-next, feeds-next}
use Rattle.stream_parts.proofs.streams.+pages_from.Goals as goal

pub returns-in_err-page-clause-goes : goal.returns-in_err-page-clause-goes
returns-in_err-page-clause-goes t c =
    goes-failed c.args.machine.pages c.args.tdcs c.args.number c.args.left (c.args.left - 1) c.args.pages c.args.told.now.left.now c.stream_page.new.told.left.now c.stream_page.new.told.left.now c.from_residual.result (omega (arith, c.if-left-eq0.false)) c.in_err-page.field-0.0
    (exit c.from_residual.result c.in_err-page.field-0.0 _ c.from_residual.ensures.1 (λ y h. h)) c.in_err-page.ensures.goes

pub returns-clause-goes : goal.returns-clause-goes
returns-clause-goes t c =
    goes-next c.args.machine.pages c.args.tdcs c.args.number c.args.left (c.args.left - 1) c.args.pages c.args.told.now.left.now c.stream_page.new.told.left.now c.pages_from.new.told.left.now c.pages_from.result (omega (arith, c.if-left-eq0.false)) c.in_ok-page.page c.push.new.self
    c.push.ensures.items c.in_ok-page.ensures.goes c.pages_from.ensures.goes

pub returns-clause-feeds : goal.returns-clause-feeds
returns-clause-feeds t c =
    feeds-next c.args.machine.pages c.args.tdcs c.args.number c.args.left (c.args.left - 1) c.args.pages c.args.told.now.left.now c.stream_page.new.told.left.now c.pages_from.new.told.left.now c.pages_from.result (omega (arith, c.if-left-eq0.false)) c.in_ok-page.page c.push.new.self
    c.push.ensures.items c.in_ok-page.ensures.feeds c.pages_from.ensures.feeds
