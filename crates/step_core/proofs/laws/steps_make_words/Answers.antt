use Rattle.step_core.proofs.Playing.{made}
use Rattle.step_core.proofs.laws.steps_make_words.Goals as goal

pub returns : goal.returns
returns c = made
