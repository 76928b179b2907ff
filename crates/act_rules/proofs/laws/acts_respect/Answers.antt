use Rattle.act_rules.proofs.Respected.{effects-respect}
use Rattle.act_rules.proofs.Rows.{rows-respect}
use Rattle.act_rules.proofs.laws.acts_respect.Goals as goal

pub returns-clause-effects : goal.returns-clause-effects
returns-clause-effects c = effects-respect

pub returns-clause-rows : goal.returns-clause-rows
returns-clause-rows c = rows-respect
