use Rattle.step_core.proofs.Paged.{paged}
use Rattle.step_core.proofs.laws.pages_change_alone.Goals as goal

pub returns : goal.returns
returns c = paged
