use Rattle.std.proofs.Common.{◌≡◌, ◌+◌, ◌-◌, refl, arith}
use Rattle.std.proofs.lemmas.List.{drop-set, length-set}
use Rattle.report_text.proofs.Room.{few_digits, most_digits, drop_mid, long_mid}
use Rattle.report_text.proofs.lines.write_head.Goals as goal

pub write_digits-dot-requires : goal.write_digits-dot-requires
write_digits-dot-requires c =
    let short = most_digits c.args.number c.ranges.number.fits in
    let long =
    long_mid (c.args.end - 8) (c.args.end - (c.args.end - 8)) c.args.line.now c.copy_from_slice.new.self
    (omega (arith, c.copy_from_slice.ensures.len, c.told-line))
    (omega (arith, c.told-line)) in
    (omega (arith, short), omega (arith, long, c.told-line))

pub overflow_sub-dot : goal.overflow_sub-dot
overflow_sub-dot c = omega (arith, most_digits c.args.number c.ranges.number.fits, c.write_digits-dot.ensures.start)

pub write_digits-requires : goal.write_digits-requires
write_digits-requires c =
    let few = few_digits c.args.lp c.ranges.lp.fits in
    let most = most_digits c.args.number c.ranges.number.fits in
    let long = length-set c.write_digits-dot.new.buf (c.write_digits-dot.result - 1) 46 in
    (omega (arith, few, most, c.write_digits-dot.ensures.start), omega (arith, long, c.write_digits-dot.auto.buf, c.write_digits-dot.ensures.start))

pub returns-clause-written : goal.returns-clause-written
returns-clause-written c =
    let most = most_digits c.args.number c.ranges.number.fits in
    let within : c.write_digits-dot.result - 1 + 1 ≡ c.write_digits-dot.result = omega (arith, most, c.write_digits-dot.ensures.start) in
    rw (
      c.write_digits.ensures.written,
      drop-set c.write_digits-dot.new.buf (c.write_digits-dot.result - 1) 46 (omega (arith, most, c.write_digits-dot.ensures.start, c.write_digits-dot.auto.buf)),
      within,
      c.write_digits-dot.ensures.written,
      drop_mid (c.args.end - 8) (c.args.end - (c.args.end - 8)) c.args.end c.args.line.now c.copy_from_slice.new.self (omega arith) (omega (arith, c.told-line)),
      c.copy_from_slice.ensures.after,
    ) refl
