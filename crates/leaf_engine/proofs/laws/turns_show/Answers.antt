use Rattle.leaf_engine.proofs.Showing.{turns-show}
use Rattle.leaf_engine.proofs.laws.turns_show.Goals as goal

pub returns : goal.returns
returns c = turns-show c.places_injective.ensures c.pages_change_alone.ensures
