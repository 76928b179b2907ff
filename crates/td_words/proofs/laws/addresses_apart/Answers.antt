use Rattle.td_words.proofs.Apart.{apart}
use Rattle.td_words.proofs.laws.addresses_apart.Goals as goal

pub returns : goal.returns
returns c = apart
