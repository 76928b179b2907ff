use Rattle.word_rules.proofs.Conflicts.{respects-compose}
use Rattle.word_rules.proofs.laws.respects_compose.Goals as goal

pub returns : goal.returns
returns c = respects-compose
