use Rattle.flat_bundles.proofs.Taken.{calls-take, calls-need, runs-take, runs-go-on}
use Rattle.flat_bundles.proofs.laws.input_law.Goals as goal

pub returns-clause-calls : goal.returns-clause-calls
returns-clause-calls c = calls-take

pub returns-clause-needs : goal.returns-clause-needs
returns-clause-needs c = calls-need

pub returns-clause-runs : goal.returns-clause-runs
returns-clause-runs c = runs-take

pub returns-clause-alike : goal.returns-clause-alike
returns-clause-alike c = runs-go-on
