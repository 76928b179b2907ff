use Rattle.std.proofs.Common.{zero-mul, one-mul}
use lib.Bits.{xor_zero_l, xor_zero_r}
use Rattle.gcm_seal.specs.Gcm.{times}
use Rattle.gcm_seal.proofs.fields.table.Goals as goal

pub returns : goal.returns
unfolding times
returns c = rw (c.times_x-h8.ensures, c.times_x-h4.ensures, c.times_x-h2.ensures) (simp (zero-mul, one-mul, xor_zero_l, xor_zero_r))
