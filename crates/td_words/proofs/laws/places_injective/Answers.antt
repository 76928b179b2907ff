use Rattle.td_words.proofs.Placed.{placed}
use Rattle.td_words.proofs.laws.places_injective.Goals as goal

pub returns : goal.returns
returns c = placed
