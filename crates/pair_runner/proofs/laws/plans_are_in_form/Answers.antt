use Rattle.pair_runner.proofs.Forms.{form_of}
use Rattle.pair_runner.proofs.laws.plans_are_in_form.Goals as goal

pub returns : goal.returns
returns c = record { in_form = form_of }
