use Rattle.std.proofs.Common.{◌≡◌, ◌-◌, ◌%◌, ◌<◌, slice_index, false, drop, arith, subst, ◌∙◌}
use Rattle.std.specs.Fmt.{digits_onto}
use Rattle.std.proofs.lemmas.List.{length-set}
use Rattle.hex.specs.Hex.{lower_digits}
use Rattle.report_text.proofs.Digits.{glyph}
use Rattle.report_text.proofs.Hexadecimal.{sixteen, put-next, put-last}
use Rattle.report_text.proofs.lines.write_hexadecimal.Goals as goal

pub loop-at-preserved : goal.loop-at-preserved
loop-at-preserved c =
    let l = c.loop-at in
    let low : l.rest % 16 < 16 = omega arith in (
      omega arith,
      omega arith,
      length-set l.line (l.at - 1) (slice_index lower_digits (l.rest % 16)) ∙ l.invariant.2,
      put-next l.line l.at (slice_index lower_digits (l.rest % 16)) (l.at - (c.args.end - 16)) (l.at - 1 - (c.args.end - 16)) l.rest (omega arith) (omega (arith, l.invariant.2)) (omega arith) (glyph (l.rest % 16) low) c.if-rest-eq0.false
          ∙ l.invariant.3,
    )

pub returns-after-loop-at-clause-written : goal.returns-after-loop-at-clause-written
returns-after-loop-at-clause-written c =
    let l = c.loop-at in
    let none : l.at - (c.args.end - 16) ≡ 0 = omega arith in
    subst (λ k. digits_onto k 16 false l.rest (drop l.at l.line) ≡ digits_onto 16 16 false c.args.n (drop c.args.end c.args.line.now)) none l.invariant.3
    ∙ sixteen c.args.n (drop c.args.end c.args.line.now) c.ranges.n.fits

pub returns-then-rest-eq0-clause-written : goal.returns-then-rest-eq0-clause-written
returns-then-rest-eq0-clause-written c =
    let l = c.loop-at in
    let low : l.rest % 16 < 16 = omega arith in
    put-last l.line l.at (slice_index lower_digits (l.rest % 16)) (l.at - (c.args.end - 16)) (l.at - 1 - (c.args.end - 16)) l.rest (omega arith) (omega (arith, l.invariant.2)) (omega arith) (glyph (l.rest % 16) low) c.if-rest-eq0.true
    ∙ l.invariant.3
    ∙ sixteen c.args.n (drop c.args.end c.args.line.now) c.ranges.n.fits
