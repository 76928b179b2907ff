use Rattle.chain_laws.proofs.Inputs.{inputs_stay}
use Rattle.chain_laws.proofs.RowsStay.{rows_stay}
use Rattle.chain_laws.proofs.handed.chain_input_law.Goals as goal

pub returns-clause-stay : goal.returns-clause-stay
returns-clause-stay c = inputs_stay

pub returns-clause-rows : goal.returns-clause-rows
returns-clause-rows c = rows_stay
