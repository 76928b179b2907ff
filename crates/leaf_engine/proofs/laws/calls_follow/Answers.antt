use Rattle.leaf_engine.proofs.Beginning.{calls-begin, start-is-met}
use Rattle.leaf_engine.proofs.OnTheWay.{reached-is-met}
use Rattle.leaf_engine.proofs.Turning.{calls-follow}
use Rattle.leaf_engine.proofs.laws.calls_follow.Goals as goal

pub returns : goal.returns
returns c = record {
  start = start-is-met c.start_is_shown.ensures c.lawful_law.ensures.run c.lock_law.ensures.run c.facts_stand.ensures.begin;
  reached = reached-is-met (record {
    lawful = c.lawful_law.ensures.run;
    exclude = c.lock_law.ensures.run;
    tell = c.event_laws.ensures.own_words;
    runs = c.lock_words_follow.ensures.runs;
    facts = c.facts_stand.ensures.reached;
  });
  begin = calls-begin;
  follow = calls-follow (record { follow = c.lock_words_follow.ensures.follow; steps = c.lock_steps_shown.ensures; places = c.places_injective.ensures; pages = c.pages_change_alone.ensures });
}
