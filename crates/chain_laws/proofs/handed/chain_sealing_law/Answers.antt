use Rattle.chain_laws.proofs.Sealing.{keys_go_by_place, links_are_sealed}
use Rattle.chain_laws.proofs.handed.chain_sealing_law.Goals as goal

pub returns-clause-keys : goal.returns-clause-keys
returns-clause-keys c = keys_go_by_place

pub returns-clause-links : goal.returns-clause-links
returns-clause-links c = links_are_sealed
