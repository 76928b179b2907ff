use Rattle.bundle_texts.proofs.Again.{bundles_again}
use Rattle.bundle_texts.proofs.laws.bundles_read_again.Goals as goal

pub returns : goal.returns
returns c = bundles_again
