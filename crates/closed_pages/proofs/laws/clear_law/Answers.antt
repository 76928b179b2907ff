use Rattle.closed_pages.proofs.Clear.{sound-is-clear, closed-is-clear}
use Rattle.closed_pages.proofs.laws.clear_law.Goals as goal

pub returns-clause-at_once : goal.returns-clause-at_once
returns-clause-at_once c = sound-is-clear c.reach_law.ensures.unreached c.reach_law.ensures.unchanged

pub returns-clause-run : goal.returns-clause-run
returns-clause-run c = closed-is-clear c.reach_law.ensures.run
