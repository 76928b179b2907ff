use Rattle.flat_bundles.proofs.Counters.{counters_kept, counters_differ}
use Rattle.flat_bundles.proofs.laws.counter_law.Goals as goal

pub returns-clause-kept : goal.returns-clause-kept
returns-clause-kept c = counters_kept

pub returns-clause-runs : goal.returns-clause-runs
returns-clause-runs c = counters_differ
