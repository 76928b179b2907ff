use Rattle.std.proofs.Common.{rules}
use Rattle.view_runner.proofs.runs.of_run.Goals as goal

pub returns-clause-part : goal.returns-clause-part
returns-clause-part g c = record {
  answer = c.load-answer.result;
  between = record { loads = g.F.Files.loads c.load-answer.new.self; faults = g.F.Files.read_faults c.load-answer.new.self; bytes = g.F.Files.bytes_read c.load-answer.new.self };
  loaded = search rules;
  further = rw c.load-answer.ensures.same at c.of_answer.ensures.part;
}
