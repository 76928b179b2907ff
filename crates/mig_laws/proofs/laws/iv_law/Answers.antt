use Rattle.mig_laws.proofs.Source.{no_iv_comes_twice}
use Rattle.mig_laws.proofs.laws.iv_law.Goals as goal

pub returns : goal.returns
returns c = no_iv_comes_twice
