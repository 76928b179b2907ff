use Rattle.flat_bundles.proofs.Rows.{calls-add}
use Rattle.flat_bundles.proofs.Bundles.{lines_kept, bundles-of-lines}
use Rattle.flat_bundles.proofs.laws.bundle_law.Goals as goal

pub returns-clause-calls : goal.returns-clause-calls
returns-clause-calls c = calls-add

pub returns-clause-kept : goal.returns-clause-kept
returns-clause-kept c = lines_kept

pub returns-clause-runs : goal.returns-clause-runs
returns-clause-runs c = bundles-of-lines
