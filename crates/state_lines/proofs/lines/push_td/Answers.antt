use Rattle.std.proofs.Common.{ap, sym, string_bytes}
use Rattle.state_lines.specs.Lines.{tdcs_text}
use Rattle.state_lines.proofs.Told.{second-told}
use Rattle.state_lines.proofs.lines.push_td.Goals as goal

pub returns-in-Some : goal.returns-in-Some
returns-in-Some c =
    second-told c.push_tdcs.result (string_bytes c.args.text.now) _ _ _ _ _ c.in_ok-push_life.ensures (ap (tdcs_text c.args.form c.args.tdr) (sym c.in-Some.is)) c.push_tdcs.ensures
