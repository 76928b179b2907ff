use Rattle.act_rules.proofs.CallHolds.{call-locks-kept}
use Rattle.act_rules.proofs.CallLocks.{guarded-events-respect, every-event-respects, events-spare-others}
use Rattle.act_rules.proofs.laws.events_respect.Goals as goal

pub returns-clause-kept : goal.returns-clause-kept
returns-clause-kept c = call-locks-kept

pub returns-clause-guarded : goal.returns-clause-guarded
returns-clause-guarded c = guarded-events-respect

pub returns-clause-run : goal.returns-clause-run
returns-clause-run c = every-event-respects

pub returns-clause-others : goal.returns-clause-others
returns-clause-others c = events-spare-others c.grips_are_apart.ensures.in_every_run c.words_never_conflict.ensures.acts
