use Rattle.script_text.proofs.Ordered.{ordered}
use Rattle.script_text.proofs.laws.reasons_in_order.Goals as goal

pub returns : goal.returns
returns c = ordered
