use Rattle.word_rules.proofs.Clash.{rules_clash}
use Rattle.word_rules.proofs.laws.rules_clash.Goals as goal

pub returns : goal.returns
returns c = rules_clash
