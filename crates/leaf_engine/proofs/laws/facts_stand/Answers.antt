use Rattle.leaf_engine.proofs.Facts.{facts-begin, facts-stand, events-keep-facts, outside-none}
use Rattle.leaf_engine.proofs.laws.facts_stand.Goals as goal

pub returns : goal.returns
returns c = record {
  begin = facts-begin c.translation_law.ensures.kept;
  events = events-keep-facts c.reached_locks_stand.ensures.kept c.reached_locks_stand.ensures.sound c.translation_law.ensures.kept;
  reached = facts-stand (events-keep-facts c.reached_locks_stand.ensures.kept c.reached_locks_stand.ensures.sound c.translation_law.ensures.kept);
  outside = outside-none;
}
