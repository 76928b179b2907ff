use Rattle.std.proofs.Common.{refl}
use Rattle.script_runner.proofs.Part.{puts_part}
use Rattle.script_runner.proofs.top.give_up.Goals as goal

pub returns-clause-text : goal.returns-clause-text
returns-clause-text g c = puts_part _ _ _ _ (rw c.as_bytes.ensures.value at c.put.ensures.told)

pub returns-clause-put : goal.returns-clause-put
returns-clause-put g c = (c.put.result, rw c.as_bytes.ensures.value at c.put.ensures.noted)

pub returns-clause-wants : goal.returns-clause-wants
returns-clause-wants g c = (
  refl,
  c.put.result,
  record {
    noted = rw c.as_bytes.ensures.value at c.put.ensures.noted;
    told = rw c.as_bytes.ensures.value at c.put.ensures.told;
    cause = c.put.ensures.cause;
    later = c.put.ensures.later;
  },
)
