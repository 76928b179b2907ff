use Rattle.view_runner.proofs.Due.{as_given}
use Rattle.view_runner.proofs.runs.of_inputs.Goals as goal

pub returns-clause-ends : goal.returns-clause-ends
returns-clause-ends c =
    as_given c.args.shown c.args.text.now c.args.script.now c.args.inputs.now _ _ c.in-Ok.bundles c.shown_of.result c.deref-2.ensures.value c.deref.ensures.value c.in-Ok.ensures c.shown_of.ensures.ends
