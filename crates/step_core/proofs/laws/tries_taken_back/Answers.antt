use Rattle.step_core.proofs.TakenBack.{back}
use Rattle.step_core.proofs.laws.tries_taken_back.Goals as goal

pub returns : goal.returns
returns c = back
