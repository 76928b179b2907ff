use Rattle.chain_laws.proofs.Secrets.{secrets_stay_private}
use Rattle.chain_laws.proofs.handed.chain_secret_law.Goals as goal

pub returns : goal.returns
returns c = secrets_stay_private
