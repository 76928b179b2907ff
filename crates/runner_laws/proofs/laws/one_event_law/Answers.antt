use Rattle.runner_laws.proofs.Runner.{sent_is_kept, sent_rests, due_is_kept, due_waits, commits_have_starts}
use Rattle.runner_laws.proofs.Two.{two_are_kept}
use Rattle.runner_laws.proofs.laws.one_event_law.Goals as goal

pub returns-clause-sent : goal.returns-clause-sent
returns-clause-sent c = sent_is_kept

pub returns-clause-rests : goal.returns-clause-rests
returns-clause-rests c = sent_rests

pub returns-clause-due : goal.returns-clause-due
returns-clause-due c = due_is_kept

pub returns-clause-waits : goal.returns-clause-waits
returns-clause-waits c = due_waits

pub returns-clause-starts : goal.returns-clause-starts
returns-clause-starts c = commits_have_starts

pub returns-clause-two : goal.returns-clause-two
returns-clause-two c = two_are_kept
