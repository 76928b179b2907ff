-- The worked imports compute.
use Rattle.std.proofs.Common.{refl}
use Rattle.flat_core.specs.ImportWorked.{ImportExamples}

pub import_examples : ImportExamples
import_examples = record {
  replies = refl;
  op_state = refl;
  words = refl;
  spared = refl;
  ready = refl;
  noted = refl;
  session = refl;
  out_of_order = refl;
  last_steps = refl;
  not_this_bundle = refl;
  no_map = refl;
  once = refl;
  tag = refl;
  form = refl;
  abandoned = refl;
  runs_on = refl;
}
