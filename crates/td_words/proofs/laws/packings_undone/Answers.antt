use Rattle.td_words.proofs.Unpacked.{packings}
use Rattle.td_words.proofs.laws.packings_undone.Goals as goal

pub returns : goal.returns
returns c = packings
