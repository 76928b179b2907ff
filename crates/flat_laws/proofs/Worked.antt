use Rattle.std.proofs.Common.{refl}
use Rattle.flat_laws.specs.Worked.{RemovalExample}

pub removal_example : RemovalExample
removal_example = record { mapped = refl; blocked = refl; epoch_raised = refl; left = refl; cached = refl; stale = refl; removed = refl }
