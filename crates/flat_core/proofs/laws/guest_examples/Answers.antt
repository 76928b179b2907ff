use Rattle.flat_core.proofs.GuestWorked.{guest_examples}
use Rattle.flat_core.proofs.laws.guest_examples.Goals as goal

pub returns : goal.returns
returns c = guest_examples
