use Rattle.access_core.proofs.Extensions.{behind-lock}
use Rattle.access_core.proofs.rtmrs.RtmrPlan.decide.Goals as goal

pub returns-clause-decides : goal.returns-clause-decides
returns-clause-decides c =
    let l = c.args.self.now in
    behind-lock l.place.machine l.tdr l.vp l.line l.index c.in_ok-word.word _ c.page_told-tdcs.result c.args.told.left.now c.load.new.self.left.now c.lock.new.self.left.now c.extend.result
    c.in_ok-word.ensures c.in_ok-lock.ensures.1 c.page_told-tdcs.ensures (c.extend.ensures.decides l.line)
