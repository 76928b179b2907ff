use Rattle.flat_alone.proofs.Alone.{each_call_at_once, ends_in_their_world}
use Rattle.flat_alone.proofs.in_number_order.Goals as goal

pub returns-clause-prints : goal.returns-clause-prints
returns-clause-prints c = each_call_at_once c.end_laws.ensures.tries

pub returns-clause-world : goal.returns-clause-world
returns-clause-world c = ends_in_their_world c.end_laws.ensures.tries
