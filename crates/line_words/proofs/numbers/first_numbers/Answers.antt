use Rattle.std.proofs.Common.{arith, map}
use Rattle.line_words.specs.Number.{number}
use Rattle.line_words.specs.Words.{words}
use Rattle.line_words.proofs.Decimals.{filled}
use Rattle.line_words.proofs.numbers.first_numbers.Goals as goal

pub returns-clause-numbers : goal.returns-clause-numbers
returns-clause-numbers c =
    let l = c.loop-place in
    filled l.numbers (map number (words l.rest.now)) l.place _ (words c.args.text.now) (omega (arith, c.loop-place-test.false, l.auto, l.invariant.same)) (omega (arith, l.invariant.same)) l.invariant.numbers
