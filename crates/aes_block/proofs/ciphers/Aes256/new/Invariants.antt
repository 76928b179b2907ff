use Rattle.std.proofs.Common.{◌≡◌, length}
use Rattle.aes_block.specs.Planes.{AreKeys}
use Rattle.aes_block.proofs.ciphers.Aes256.new.Given as goal

abbrev pub invariant-loop-r : goal.invariant-loop-r
invariant-loop-r l = (length l.keys ≡ 15) × AreKeys l.keys l.fn.key l.r
