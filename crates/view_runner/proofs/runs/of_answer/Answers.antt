use Rattle.view_runner.proofs.Due.{answer_read}
use Rattle.view_runner.proofs.runs.of_answer.Goals as goal

pub returns-in-Ok-clause-part : goal.returns-in-Ok-clause-part
returns-in-Ok-clause-part g c = answer_read _ _ c.in-Ok.bytes _ _ _ c.in-Ok.is (rw c.deref.ensures.value at c.of_bytes.ensures.part)
