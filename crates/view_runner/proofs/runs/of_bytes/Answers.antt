use Rattle.std.proofs.Common.{inr}
use Rattle.view_runner.proofs.runs.of_bytes.Goals as goal

pub of_script-requires : goal.of_script-requires
of_script-requires g c = c.scripts_are_in_form.ensures.in_form c.args.bytes.now c.in-Ok.script c.in-Ok.ensures

pub returns-in-Ok-clause-part : goal.returns-in-Ok-clause-part
returns-in-Ok-clause-part g c = inr (c.in-Ok.script, c.in-Ok.ensures, c.of_script.ensures.part)
