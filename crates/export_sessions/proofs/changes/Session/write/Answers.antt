use Rattle.std.proofs.Common.{rules}
use Rattle.export_sessions.proofs.changes.Session.write.Goals as goal

pub returns-in_default-clause-hands : goal.returns-in_default-clause-hands
returns-in_default-clause-hands c = search rules
