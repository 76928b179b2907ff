use Rattle.leaf_engine.proofs.Followed.{processors-follow}
use Rattle.leaf_engine.proofs.laws.processors_follow.Goals as goal

pub returns : goal.returns
returns c = processors-follow (record {
  leaves = c.leaves_follow.ensures;
  shown = c.start_is_shown.ensures;
  exclude = c.lock_law.ensures.run;
  tell = c.event_laws.ensures.own_words;
  few = c.lock_words_follow.ensures.runs;
  facts = c.facts_stand.ensures.reached;
})
