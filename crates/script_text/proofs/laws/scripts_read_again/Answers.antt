use Rattle.script_text.proofs.Spelled.{spelled}
use Rattle.script_text.proofs.laws.scripts_read_again.Goals as goal

pub returns : goal.returns
returns c = spelled
