use Rattle.script_text.proofs.FirstBads.{first_bads}
use Rattle.script_text.proofs.laws.faults_are_first.Goals as goal

pub returns : goal.returns
returns c = first_bads
