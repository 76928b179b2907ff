use Rattle.std.proofs.Common.{sym}
use Rattle.stream_parts.proofs.Unmade.{none-made}
use Rattle.export_tokens.specs.TokenTrees.{token_end, token_tree}
use Rattle.export_tokens.proofs.tokens.Token.bundle.Goals as goal

pub returns-in-Err : goal.returns-in-Err
returns-in-Err c =
    let l = c.args.self.now in
    sym (none-made l.place.machine.pages (token_tree l.place.machine l.tdr l.slot l.start) c.args.told.now c.in-Err.field-0 (c.in-Err.ensures.goes (token_end l.slot l.start)))
