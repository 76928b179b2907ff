use Rattle.std.proofs.Common.{rules}
use Rattle.export_sessions.proofs.changes.+stream_write.Goals as goal

pub returns-in-0-clause-hands : goal.returns-in-0-clause-hands
returns-in-0-clause-hands t c = search rules
