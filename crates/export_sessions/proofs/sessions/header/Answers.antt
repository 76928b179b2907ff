use Rattle.std.proofs.Common.{rules}
use Rattle.export_sessions.proofs.sessions.header.Goals as goal

pub returns : goal.returns
returns c = search rules
