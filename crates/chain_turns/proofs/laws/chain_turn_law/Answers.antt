use Rattle.chain_turns.proofs.Modules.{modules-stand}
use Rattle.chain_turns.proofs.laws.chain_turn_law.Goals as goal

pub returns : goal.returns
returns c = modules-stand c.turn_law.ensures c.calls_have_leaves.ensures
