use Rattle.std.proofs.Common.{rules}
use Rattle.export_tokens.proofs.tokens.TokenPlan.write.Goals as goal

pub returns-in_default-eq1-clause-hands : goal.returns-in_default-eq1-clause-hands
returns-in_default-eq1-clause-hands c = search rules

pub returns-in-0-eq1-clause-hands : goal.returns-in-0-eq1-clause-hands
returns-in-0-eq1-clause-hands c = search rules
