use Rattle.runner_laws.proofs.Runner.{sent_tds_rest, commits_kept, none_given_back, commits_are_started, sources_rest, paused_sources_stay, destinations_wait, at_most_one_runs}
use Rattle.runner_laws.proofs.laws.one_runner_law.Goals as goal

pub returns-clause-rests : goal.returns-clause-rests
returns-clause-rests c = sent_tds_rest

pub returns-clause-kept : goal.returns-clause-kept
returns-clause-kept c = commits_kept

pub returns-clause-tokens : goal.returns-clause-tokens
returns-clause-tokens c = none_given_back

pub returns-clause-commits : goal.returns-clause-commits
returns-clause-commits c = commits_are_started

pub returns-clause-sources : goal.returns-clause-sources
returns-clause-sources c = sources_rest

pub returns-clause-paused : goal.returns-clause-paused
returns-clause-paused c = paused_sources_stay

pub returns-clause-destinations : goal.returns-clause-destinations
returns-clause-destinations c = destinations_wait

pub returns-clause-one : goal.returns-clause-one
returns-clause-one c = at_most_one_runs
