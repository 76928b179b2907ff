use Rattle.chain_laws.proofs.OneWay.{chains_use_ivs_once, pairs_take_all}
use Rattle.chain_laws.proofs.handed.chain_key_law.Goals as goal

pub returns-clause-ivs : goal.returns-clause-ivs
returns-clause-ivs c = chains_use_ivs_once

pub returns-clause-pairs : goal.returns-clause-pairs
returns-clause-pairs c = pairs_take_all
