use Rattle.std.proofs.Common.{◌∙◌, ◌-◌, rules, take, drop, length}
use Rattle.std.proofs.lemmas.List.{take_rest}
use Rattle.std.proofs.lemmas.Result.{IfErr-weaker, IfOk-weaker}
use Rattle.command_files.proofs.FirstWords.{asked_of_rest, named_first, nothing_asked}
use Rattle.command_files.proofs.commands.read_command.Goals as goal

pub returns-then-is_empty-clause-read : goal.returns-then-is_empty-clause-read
returns-then-is_empty-clause-read c = nothing_asked c.args.words.now (search rules)

pub returns-clause-read : goal.returns-clause-read
returns-clause-read c =
    let words = c.args.words.now in
    IfOk-weaker c.asked_behind.result _ _ (λ a h. h ∙ asked_of_rest words (take (length words - 1) (drop 1 words)) c.index-words-0.result c.as_str.result.now (search rules) c.index-words-0.is c.as_str.ensures.value (take_rest words 1)) c.asked_behind.ensures.read

pub returns-clause-memory : goal.returns-clause-memory
returns-clause-memory c =
    IfErr-weaker c.asked_behind.result _ _ (λ e h. named_first c.args.words.now c.index-words-0.result c.as_str.result.now (search rules) c.index-words-0.is c.as_str.ensures.value h) c.asked_behind.ensures.memory
