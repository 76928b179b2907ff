use Rattle.std.proofs.Common.{arith}
use Rattle.line_words.proofs.Decimals.{digits_more, value_more}
use Rattle.line_words.proofs.numbers.digits_front.Goals as goal

pub loop-at-preserved : goal.loop-at-preserved
loop-at-preserved c =
    let xs = c.args.text.now in
    let i = c.loop-at.at in
    record {
      inside = omega (arith, c.loop-at-test.true);
      digits = digits_more xs i (omega (arith, c.loop-at-test.true)) c.loop-at.invariant.digits (omega (arith, c.if-text-at-ge48.true)) (omega (arith, c.if-text-at-le57.true));
      value = rw c.from.ensures
          (value_more xs i c.loop-at.value (omega (arith, c.loop-at-test.true)) c.loop-at.invariant.value (omega (arith, c.if-text-at-ge48.true)) (omega (arith, c.if-text-at-le57.true))
          (omega (arith, c.if-value-le-SAFE.true, c.if-text-at-le57.true)));
    }
