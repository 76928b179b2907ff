use Rattle.bundle_format.proofs.Again.{read_again, apart}
use Rattle.bundle_format.proofs.Spelled.{read_from}
use Rattle.bundle_format.proofs.laws.headers_read_again.Goals as goal

pub returns : goal.returns
returns c = record { read_again = read_again; read_from = read_from; apart = apart }
