use Rattle.std.proofs.Common.{arith}
use Rattle.script_text.proofs.Calls.{pushed}
use Rattle.script_text.proofs.drafts.add_call.Goals as goal

pub returns : goal.returns
returns c =
    rw (← c.from-lp.ensures)
    (pushed c.args.calls.now.items c.from-lp.result c.args.call c.index_mut-list.result.now c.push.new.self (omega arith) c.index_mut-list.ensures.value (omega arith) c.in_ok-push.ensures.items)
