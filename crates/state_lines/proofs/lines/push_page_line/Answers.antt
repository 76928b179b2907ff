use Rattle.state_lines.proofs.Told.{as-told, with-bepoch}
use Rattle.state_lines.proofs.lines.push_page_line.Goals as goal

pub returns-else-epoch-eq0 : goal.returns-else-epoch-eq0
returns-else-epoch-eq0 c =
    as-told c.push_line-else-epoch-eq0.result _ _ _ _ c.push_line-else-epoch-eq0.ensures (with-bepoch c.args.form c.args.page _ c.args.pamt.now c.pamt.view_is c.if-epoch-eq0.false)
