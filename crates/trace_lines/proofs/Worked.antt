-- The worked traces compute.
use Rattle.std.proofs.Common.{refl}
use Rattle.trace_lines.specs.Worked.{Examples}

pub examples : Examples
examples = record { meeting = refl; entry = refl }
