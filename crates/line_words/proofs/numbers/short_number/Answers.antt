use Rattle.std.proofs.Common.{arith}
use Rattle.line_words.proofs.Decimals.{number_cut}
use Rattle.line_words.proofs.numbers.short_number.Goals as goal

pub returns-clause-cut : goal.returns-clause-cut
returns-clause-cut c =
    let front = c.digits_front-end in
    number_cut c.args.text.now front.result.0 front.result.1 (grind (arith, c.if-end-eq0.false)) (grind (arith, front.ensures.inside, c.if-end-text.false)) front.ensures.digits front.ensures.value
    (grind (arith, c.if-text-end-ne32.false))
