use Rattle.command_files.specs.Commands.{Replay, named_seen}
use Rattle.script_runner.proofs.Came.{fault_ends, run_ends}
use Rattle.script_runner.proofs.commanded.of_replay.Goals as goal

pub returns-in-Err-clause-ends : goal.returns-in-Err-clause-ends
returns-in-Err-clause-ends g c =
    fault_ends _ (Replay (named_seen c.args.named.now)) _ c.args.script.now _ _ _ c.of_fault.result (rw c.needs_of.ensures at c.in-Err.ensures.takes) (c.of_fault.ensures.ends (Replay (named_seen c.args.named.now)) c.args.script.now)

pub returns-in-Ok-clause-ends : goal.returns-in-Ok-clause-ends
returns-in-Ok-clause-ends g c =
    run_ends _ (Replay (named_seen c.args.named.now)) _ c.args.script.now _ _ c.in-Ok.inputs c.replay.result (rw c.needs_of.ensures at c.in-Ok.ensures.takes) c.replay.ensures

pub returns-in-Err-clause-part : goal.returns-in-Err-clause-part
returns-in-Err-clause-part g c = (_, rw c.needs_of.ensures at c.in-Err.ensures.takes)

pub returns-in-Ok-clause-part : goal.returns-in-Ok-clause-part
returns-in-Ok-clause-part g c = (_, rw c.needs_of.ensures at c.in-Ok.ensures.takes)
