use Rattle.flat_laws.proofs.Owners.{every-page-has-its-owner}
use Rattle.flat_laws.proofs.laws.ownership_law.Goals as goal

pub returns : goal.returns
returns c = every-page-has-its-owner
