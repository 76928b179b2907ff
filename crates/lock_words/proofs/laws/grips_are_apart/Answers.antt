use Rattle.flat_core.specs.Laws.{reached}
use Rattle.lock_words.proofs.Apart.{grips-apart, grips-whole}
use Rattle.lock_words.proofs.laws.grips_are_apart.Goals as goal

pub returns-clause-where_locks_exclude : goal.returns-clause-where_locks_exclude
returns-clause-where_locks_exclude c = grips-apart

pub returns-clause-in_every_run : goal.returns-clause-in_every_run
returns-clause-in_every_run c = λ o ws schedule p q. grips-apart (reached o ws schedule) p q (c.lock_law.ensures.run o ws schedule)

pub returns-clause-whole : goal.returns-clause-whole
returns-clause-whole c = grips-whole
