use Rattle.std.proofs.Common.{rules}
use Rattle.script_runner.proofs.commanded.of_command.Goals as goal

pub returns-clause-part : goal.returns-clause-part
returns-clause-part g c = record {
  answer = c.load-answer.result;
  between = record { loads = g.F.Files.loads c.load-answer.new.self; faults = g.F.Files.read_faults c.load-answer.new.self; bytes = g.F.Files.bytes_read c.load-answer.new.self };
  script_loaded = search rules;
  further = rw c.load-answer.ensures.same at c.of_answer.ensures.part;
}
