-- The worked lists of pages compute.
use Rattle.std.proofs.Common.{refl}
use Rattle.flat_core.specs.ListWorked.{ListExamples}

pub list_examples : ListExamples
list_examples = record {
  sent = refl;
  exported = refl;
  live = refl;
  untracked = refl;
  first_tracked = refl;
  whole = refl;
  operands = refl;
  taken = refl;
  words = refl;
  count = refl;
  locked = refl;
  tag = refl;
}
