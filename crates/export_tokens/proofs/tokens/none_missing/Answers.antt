use Rattle.std.proofs.Common.{rules}
use Rattle.export_tokens.proofs.tokens.none_missing.Goals as goal

pub returns-clause-goes : goal.returns-clause-goes
returns-clause-goes c = search rules
