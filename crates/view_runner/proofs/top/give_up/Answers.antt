use Rattle.std.proofs.Common.{refl}
use Rattle.view_runner.proofs.top.give_up.Goals as goal

pub returns-clause-wants : goal.returns-clause-wants
returns-clause-wants g c = (
  refl,
  c.put.result,
  record {
    noted = rw c.as_bytes.ensures.value at c.put.ensures.noted;
    told = rw c.as_bytes.ensures.value at c.put.ensures.told;
    cause = c.put.ensures.cause;
    later = c.put.ensures.later;
  },
)
