use Rattle.std.proofs.Common.{sym}
use Rattle.aes_block.proofs.Words.{sixteen_is}
use Rattle.aes_block.proofs.lanes.lanes_of.Goals as goal

pub returns : goal.returns
returns c = sym (sixteen_is c.args.v c.fits-v.0)
