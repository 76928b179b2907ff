use Rattle.word_rules.proofs.Start.{start-is-shown}
use Rattle.word_rules.proofs.laws.start_is_shown.Goals as goal

pub returns : goal.returns
returns c = start-is-shown
