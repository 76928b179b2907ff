use Rattle.incoming.proofs.Sealed.{sealed-comes-in}
use Rattle.incoming.proofs.laws.sealed_comes_in.Goals as goal

pub returns : goal.returns
returns c = sealed-comes-in
