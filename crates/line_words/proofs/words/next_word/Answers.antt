use Rattle.std.proofs.Common.{arith, sym, ◌∙◌}
use Rattle.line_words.proofs.NextWords.{no_word}
use Rattle.line_words.proofs.words.next_word.Goals as goal

pub returns-then-is_empty-clause-cut : goal.returns-then-is_empty-clause-cut
returns-then-is_empty-clause-cut c = sym c.without_front_spaces-text.ensures.same ∙ no_word c.without_front_spaces-text.result.now (grind (arith, c.if-is_empty.ensures))
