use Rattle.script_text.proofs.Forms.{in_forms}
use Rattle.script_text.proofs.laws.scripts_are_in_form.Goals as goal

pub returns : goal.returns
returns c = in_forms
