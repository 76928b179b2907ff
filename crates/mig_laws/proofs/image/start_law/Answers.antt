use Rattle.mig_laws.proofs.Started.{every_run_is_a_source, missing_are_unsent, sources_are_started, starts_kept}
use Rattle.mig_laws.proofs.image.start_law.Goals as goal

pub returns-clause-kept : goal.returns-clause-kept
returns-clause-kept c = starts_kept

pub returns-clause-started : goal.returns-clause-started
returns-clause-started c = sources_are_started

pub returns-clause-missing : goal.returns-clause-missing
returns-clause-missing c = missing_are_unsent

pub returns-clause-sources : goal.returns-clause-sources
returns-clause-sources c = every_run_is_a_source
