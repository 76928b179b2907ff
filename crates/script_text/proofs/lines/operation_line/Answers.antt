use Rattle.std.proofs.Common.{sym}
use Rattle.script_text.proofs.Names.{good_line, bad_line}
use Rattle.script_text.proofs.lines.operation_line.Goals as goal

pub returns-in-Ok : goal.returns-in-Ok
returns-in-Ok c = rw c.in-Some.is (sym (good_line c.in-Some.op c.args.numbers.now c.in-Ok.named (sym c.in-Ok.ensures)))

pub returns-in-Err : goal.returns-in-Err
returns-in-Err c = rw c.in-Some.is (sym (bad_line c.in-Some.op c.args.numbers.now c.in-Err.reason (sym c.in-Err.ensures)))
