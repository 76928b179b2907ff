use Rattle.report_core.proofs.Pieces.{reports_differ}
use Rattle.report_core.proofs.laws.reports_told_apart.Goals as goal

pub returns : goal.returns
returns c = reports_differ
