use Rattle.std.proofs.Common.{◌≡◌, length, take}
use Rattle.report_core.specs.Hmac.{masked}
use Rattle.report_core.proofs.hmacs.mask.Given as goal

-- the bytes so far
abbrev pub invariant-bytes : goal.invariant-bytes
invariant-bytes l = (length l.out ≡ 128) × (take l.i l.out ≡ masked l.pad (take l.i l.block))
