use Rattle.soak_scripts.proofs.InForm.{soaks_in_form}
use Rattle.soak_scripts.proofs.laws.soaks_are_in_form.Goals as goal

pub returns : goal.returns
returns c = soaks_in_form
