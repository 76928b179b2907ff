use Rattle.std.proofs.Common.{rules, tests}
use Rattle.line_words.specs.Words.{words}
use Rattle.script_text.proofs.Short.{faulty}
use Rattle.script_text.proofs.schedules.schedule_line.Goals as goal

pub returns-in-Err-Bad : goal.returns-in-Err-Bad
returns-in-Err-Bad c =
    let w = rw (c.in-Err-Bad.is, c.in-Err-Bad.field-0-is) at c.write_items.ensures in
    rw (c.bad-in-Err-Bad.ensures, c.first_reason.ensures) (w.0, faulty c.args.lps c.args.schedule.now.items (words c.args.text.now) c.in-Err-Bad.reason (search (rules, tests)) w.1)
