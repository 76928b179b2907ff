use Rattle.state_lines.proofs.Told.{as-told, torn-down, standing}
use Rattle.state_lines.proofs.lines.push_life.Goals as goal

pub returns-in-Teardown : goal.returns-in-Teardown
returns-in-Teardown c =
    as-told c.push_line.result _ _ _ _ c.push_line.ensures (torn-down c.args.form c.args.tdr c.args.td.now.hkid c.args.td.now.children c.args.td.now.life c.in-Teardown.is)

pub returns-in_default : goal.returns-in_default
returns-in_default c =
    as-told c.push_line-in_default.result _ _ _ _ c.push_line-in_default.ensures (standing c.args.form c.args.tdr c.args.td.now.hkid c.args.td.now.children c.args.td.now.life c.in_default.not-Teardown)
