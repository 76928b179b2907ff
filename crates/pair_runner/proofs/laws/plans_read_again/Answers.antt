use Rattle.pair_runner.proofs.Spelled.{text_read}
use Rattle.pair_runner.proofs.laws.plans_read_again.Goals as goal

pub returns : goal.returns
returns c = record { read_again = text_read }
