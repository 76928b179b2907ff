use Rattle.flat_laws.proofs.Relocated.{relocations-move-pages}
use Rattle.flat_laws.proofs.laws.relocation_law.Goals as goal

pub returns : goal.returns
returns c = relocations-move-pages
