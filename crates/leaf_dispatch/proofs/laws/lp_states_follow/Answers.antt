use Rattle.leaf_dispatch.proofs.Follows.{lp-states-follow}
use Rattle.leaf_dispatch.proofs.laws.lp_states_follow.Goals as goal

pub returns : goal.returns
returns c = lp-states-follow c.processors_follow.ensures c.turns_told.ensures c.calls_have_leaves.ensures
