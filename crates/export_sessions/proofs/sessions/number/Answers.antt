use Rattle.std.proofs.Common.{rules}
use Rattle.export_sessions.proofs.sessions.number.Goals as goal

pub returns-clause-goes : goal.returns-clause-goes
returns-clause-goes c = search rules
