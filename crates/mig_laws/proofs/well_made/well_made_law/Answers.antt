use Rattle.mig_laws.proofs.WellRuns.{well_kept, every_list, every_session}
use Rattle.mig_laws.proofs.well_made.well_made_law.Goals as goal

pub returns-clause-kept : goal.returns-clause-kept
returns-clause-kept c = well_kept

pub returns-clause-lists : goal.returns-clause-lists
returns-clause-lists c = every_list

pub returns-clause-sessions : goal.returns-clause-sessions
returns-clause-sessions c = every_session
