use Rattle.bundle_store.proofs.Found.{container_found, bad_found}
use Rattle.bundle_store.proofs.Steps.{container_again}
use Rattle.bundle_store.proofs.laws.containers_read_again.Goals as goal

pub returns : goal.returns
returns c = record { read_again = container_again; read_from = container_found; first_bad = bad_found }
