use Rattle.script_runner.proofs.Loading.{answer_read}
use Rattle.script_runner.proofs.commanded.of_answer.Goals as goal

pub returns-in-Ok-clause-part : goal.returns-in-Ok-clause-part
returns-in-Ok-clause-part g c = answer_read _ _ c.in-Ok.bytes _ _ _ c.in-Ok.is c.of_bytes.ensures.part
