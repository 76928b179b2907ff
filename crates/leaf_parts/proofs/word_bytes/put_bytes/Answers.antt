use Rattle.std.proofs.Common.{◌∙◌, ap, ◌-◌, ◌+◌, ◌*◌, length, arith}
use Rattle.leaf_parts.proofs.WordBytes.{bytes-next, bytes-put, bytes-whole}
use Rattle.leaf_parts.proofs.word_bytes.put_bytes.Goals as goal

pub loop-i-preserved : goal.loop-i-preserved
loop-i-preserved c = (
  bytes-next c.loop-i.bytes c.args.words.now c.copy_from_slice.new.self c.loop-i.i (8 * c.loop-i.i + 8 - 8 * c.loop-i.i) c.loop-i.invariant.0 c.loop-i.invariant.1 c.loop-i-test.true (c.copy_from_slice.ensures.after ∙ c.to_le_bytes.ensures),
  bytes-put c.loop-i.bytes c.args.words.now c.copy_from_slice.new.self c.loop-i.i (8 * c.loop-i.i + 8 - 8 * c.loop-i.i) c.loop-i.invariant.1 c.loop-i-test.true (omega arith) (ap length (c.copy_from_slice.ensures.after ∙ c.to_le_bytes.ensures)),
)

pub returns : goal.returns
returns c = bytes-whole c.loop-i.bytes c.args.words.now c.loop-i.i c.loop-i.invariant.0 c.loop-i.invariant.1 (omega (arith, c.loop-i-test.false, c.loop-i.auto.i-end))
