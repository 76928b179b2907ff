-- The worked command lines compute.
use Rattle.std.proofs.Common.{◌≡◌, map, refl}
use Rattle.clap.proofs.OnLiterals.{clap_on_literals}
use Rattle.command_files.specs.Commands.{asked_in}
use Rattle.command_files.specs.Worked.{worked_lines}

pub are_read_so : map (λ row. asked_in row.0) worked_lines ≡ map (λ row. row.1) worked_lines
unfolding clap_on_literals asked_in
are_read_so = refl
