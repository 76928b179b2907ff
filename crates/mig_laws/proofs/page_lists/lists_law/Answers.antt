use Rattle.mig_laws.proofs.ListLaws.{lists_are_sent, lists_are_taken}
use Rattle.mig_laws.proofs.page_lists.lists_law.Goals as goal

pub returns-clause-sent : goal.returns-clause-sent
returns-clause-sent c = lists_are_sent

pub returns-clause-taken : goal.returns-clause-taken
returns-clause-taken c = lists_are_taken
