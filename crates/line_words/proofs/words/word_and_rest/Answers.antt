use Rattle.std.proofs.Common.{refl, sym}
use Rattle.line_words.proofs.NextWords.{last_parts, cut_parts}
use Rattle.line_words.proofs.words.word_and_rest.Goals as goal

pub returns-in-None-clause-cut : goal.returns-in-None-clause-cut
returns-in-None-clause-cut c = last_parts c.args.text.now _ c.requires.some refl (sym c.in-None.ensures)

pub returns-in-Some-clause-cut : goal.returns-in-Some-clause-cut
returns-in-Some-clause-cut c = cut_parts c.args.text.now _ c.requires.front (sym c.in-Some.ensures)
