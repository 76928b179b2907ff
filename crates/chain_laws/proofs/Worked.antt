-- The worked chains compute.
use Rattle.std.proofs.Common.{refl}
use Rattle.chain_laws.specs.Worked.{ChainExamples}

pub chain_examples : ChainExamples
chain_examples = record {
  source = refl;
  destination = refl;
  still = refl;
  too_early = refl;
  not_yet = refl;
  in_time = refl;
  left_over = refl;
  rests = refl;
  runs = refl;
  brought = refl;
  passed_on = refl;
  brought_on = refl;
  places_first = refl;
  places_second = refl;
}
