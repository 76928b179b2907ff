use Rattle.script_runner.proofs.Loading.{script_read}
use Rattle.script_runner.proofs.commanded.of_bytes.Goals as goal

pub of_script-requires-clause-form : goal.of_script-requires-clause-form
of_script-requires-clause-form g c names lives = c.scripts_are_in_form.ensures.in_form c.args.bytes.items c.in-Ok.script (rw c.deref.ensures.value at c.in-Ok.ensures)

pub returns-in-Ok-clause-part : goal.returns-in-Ok-clause-part
returns-in-Ok-clause-part g c = script_read _ _ c.in-Ok.script _ _ _ (rw c.deref.ensures.value at c.in-Ok.ensures) c.of_script.ensures.part
