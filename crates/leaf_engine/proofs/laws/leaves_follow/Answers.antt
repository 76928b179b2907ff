use Rattle.leaf_engine.proofs.Doings.{leaves-follow}
use Rattle.leaf_engine.proofs.laws.leaves_follow.Goals as goal

pub returns : goal.returns
returns c = leaves-follow (record { follow = c.lock_words_follow.ensures.follow; steps = c.lock_steps_shown.ensures; places = c.places_injective.ensures; pages = c.pages_change_alone.ensures })
