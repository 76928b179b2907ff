use Rattle.std.proofs.Common.{sym}
use Rattle.leaf_dispatch.proofs.EndedCalls.{host-makes}
use Rattle.leaf_dispatch.proofs.call_runs.made_by_call.Goals as goal

pub returns-in-Some : goal.returns-in-Some
returns-in-Some c = sym (host-makes c.args.kept.now.host c.args.kept.now.other _ c.in-Some.is)
