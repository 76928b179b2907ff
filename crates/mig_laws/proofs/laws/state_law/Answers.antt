use Rattle.mig_laws.proofs.States.{positions_kept, states_kept, started_have_states}
use Rattle.mig_laws.proofs.laws.state_law.Goals as goal

pub returns-clause-kept : goal.returns-clause-kept
returns-clause-kept c = states_kept

pub returns-clause-positions : goal.returns-clause-positions
returns-clause-positions c = positions_kept

pub returns-clause-runs : goal.returns-clause-runs
returns-clause-runs c = started_have_states
