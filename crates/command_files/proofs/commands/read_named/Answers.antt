use Rattle.std.proofs.Common.{◌∙◌, sym, ap, map, string_bytes, option_map, option_and_then}
use Rattle.clap.specs.Words.{found_of, rows_of}
use Rattle.command_files.specs.Commands.{named_in, found_in}
use Rattle.command_files.proofs.commands.read_named.Goals as goal

pub returns-in-Some : goal.returns-in-Some
returns-in-Some c =
    let words = map string_bytes c.args.rest.now in
    c.named_in.ensures
    ∙ ap (option_and_then named_in) (sym (ap (option_map (λ found. rows_of (found_of found))) c.in-Some.is) ∙ c.in_ok-found.ensures ∙ ap (λ line. found_in line words) c.in_ok-line.ensures)

pub returns-in-None : goal.returns-in-None
returns-in-None c =
    let words = map string_bytes c.args.rest.now in
    ap (option_and_then named_in) (sym (ap (option_map (λ found. rows_of (found_of found))) c.in-None.is) ∙ c.in_ok-found.ensures ∙ ap (λ line. found_in line words) c.in_ok-line.ensures)
