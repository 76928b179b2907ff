use Rattle.std.proofs.Common.{◌≡◌, ◌*◌, length, take}
use Rattle.flat_core.specs.Digests.{digest_bytes}
use Rattle.leaf_parts.proofs.word_bytes.put_bytes.Given as goal

abbrev pub invariant-loop-i : goal.invariant-loop-i
invariant-loop-i l = (take (8 * l.i) l.bytes ≡ digest_bytes (take l.i l.words)) × (length l.bytes ≡ 8 * length l.words)
