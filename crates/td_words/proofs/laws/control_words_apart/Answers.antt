use Rattle.td_words.proofs.Apart.{places_apart}
use Rattle.td_words.proofs.laws.control_words_apart.Goals as goal

pub returns : goal.returns
returns c = places_apart
