use Rattle.merge_laws.proofs.Standing.{Laws}
use Rattle.turn_laws.proofs.Known.{first-known, known-kept}
use Rattle.turn_laws.proofs.OneTurn.{turn-keeps, all-first}
use Rattle.turn_laws.proofs.Begun.{turns-begin, begun-call}
use Rattle.turn_laws.proofs.More.{all-more}
use Rattle.turn_laws.proofs.laws.turn_law.Goals as goal

pub returns : goal.returns
returns c =
    let ls : Laws = record {
      lawful = c.lawful_law.ensures.run;
      exclude = c.lock_law.ensures.run;
      tell = c.event_laws.ensures.own_words;
      others = c.event_laws.ensures.others;
      follow = c.lock_words_follow.ensures.follow;
      runs = c.lock_words_follow.ensures.runs;
      steps = c.lock_steps_shown.ensures;
      facts = c.facts_stand.ensures.reached;
      places = c.places_injective.ensures;
      pages = c.pages_change_alone.ensures;
      words = c.words_never_conflict.ensures.words;
      acts = c.words_never_conflict.ensures.acts;
      compose = c.respects_compose.ensures;
      apart = c.grips_are_apart.ensures.where_locks_exclude;
      stay = c.td_locks_stay.ensures.stay;
      keep = c.stores_keep_reads.ensures;
      views = c.views_are_kept.ensures;
      start = c.start_is_shown.ensures;
      one = c.turns_in_pieces.ensures;
      spare = c.guest_law.ensures.events;
    } in
    record {
      first = first-known ls c.facts_stand.ensures.events;
      known = known-kept ls c.facts_stand.ensures.events;
      start = all-first ls;
      turn = turn-keeps ls c.facts_stand.ensures.events;
      begun = turns-begin;
      call_begun = begun-call;
      more = all-more;
    }
