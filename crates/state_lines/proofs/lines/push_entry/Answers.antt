use Rattle.state_lines.proofs.Told.{as-told, unmarked, marked}
use Rattle.state_lines.proofs.lines.push_entry.Goals as goal

pub returns-then-mark-eq0 : goal.returns-then-mark-eq0
returns-then-mark-eq0 c =
    as-told c.push_line.result _ _ _ _ c.push_line.ensures (unmarked c.args.form c.args.tdr c.args.level c.args.gpa _ c.args.entry.now c.entry.view_is c.if-mark-eq0.true)

pub returns-else-mark-eq0 : goal.returns-else-mark-eq0
returns-else-mark-eq0 c =
    as-told c.push_line-else-mark-eq0.result _ _ _ _ c.push_line-else-mark-eq0.ensures (marked c.args.form c.args.tdr c.args.level c.args.gpa _ c.args.entry.now c.entry.view_is c.if-mark-eq0.false)
