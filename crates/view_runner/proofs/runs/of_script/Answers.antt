use Rattle.view_runner.proofs.Due.{fault_ends, run_ends}
use Rattle.view_runner.proofs.runs.of_script.Goals as goal

pub returns-in-Err-clause-ends : goal.returns-in-Err-clause-ends
returns-in-Err-clause-ends g c =
    fault_ends _ c.args.shown _ c.args.text.now c.args.script.now _ _ _ c.of_fault.result (rw c.needs_due.ensures at c.in-Err.ensures.takes) (c.of_fault.ensures.ends c.args.shown c.args.text.now c.args.script.now)

pub returns-in-Ok-clause-ends : goal.returns-in-Ok-clause-ends
returns-in-Ok-clause-ends g c =
    run_ends _ c.args.shown _ c.args.text.now c.args.script.now _ _ c.in-Ok.inputs c.of_inputs.result (rw c.needs_due.ensures at c.in-Ok.ensures.takes) c.of_inputs.ensures.ends

pub returns-in-Err-clause-part : goal.returns-in-Err-clause-part
returns-in-Err-clause-part g c = (_, rw c.needs_due.ensures at c.in-Err.ensures.takes)

pub returns-in-Ok-clause-part : goal.returns-in-Ok-clause-part
returns-in-Ok-clause-part g c = (_, rw c.needs_due.ensures at c.in-Ok.ensures.takes)
