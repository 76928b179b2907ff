use Rattle.std.proofs.Common.{◌≡◌, ◌+◌, ◌-◌, [], drop, refl, arith}
use Rattle.std.proofs.lemmas.List.{drop-set, drop_all, length-set}
use Rattle.report_text.proofs.Room.{most_digits}
use Rattle.report_text.proofs.lines.write_last.Goals as goal

pub write_digits-space-requires : goal.write_digits-space-requires
write_digits-space-requires c = (omega (arith, most_digits c.args.number c.ranges.number.fits), omega (arith, length-set c.args.line.now 71 10, c.told-line))

pub overflow_sub-space : goal.overflow_sub-space
overflow_sub-space c = omega (arith, most_digits c.args.number c.ranges.number.fits, c.write_digits-space.ensures.start)

pub returns-clause-start : goal.returns-clause-start
returns-clause-start c =
    let most = most_digits c.args.number c.ranges.number.fits in
    (omega (arith, most, c.write_digits-space.ensures.start), omega (arith, most, c.write_digits-space.ensures.start))

pub returns-clause-written : goal.returns-clause-written
returns-clause-written c =
    let most = most_digits c.args.number c.ranges.number.fits in
    let within : c.write_digits-space.result - 1 + 1 ≡ c.write_digits-space.result = omega (arith, most, c.write_digits-space.ensures.start) in
    let past : drop (71 + 1) c.args.line.now ≡ [] = drop_all (71 + 1) c.args.line.now (omega (arith, c.told-line)) in
    rw (
      drop-set c.write_digits-space.new.buf (c.write_digits-space.result - 1) 32 (omega (arith, most, c.write_digits-space.ensures.start, c.write_digits-space.auto.buf, length-set c.args.line.now 71 10, c.told-line)),
      within,
      c.write_digits-space.ensures.written,
      drop-set c.args.line.now 71 10 (omega (arith, c.told-line)),
      past,
    ) refl
