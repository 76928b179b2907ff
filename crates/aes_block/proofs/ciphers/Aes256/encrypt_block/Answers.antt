use Rattle.std.proofs.Common.{◌∙◌, ap, lit<}
use Rattle.aes_block.specs.Aes.{cipher}
use Rattle.aes_block.proofs.Words.{sixteen_is}
use Rattle.aes_block.proofs.ciphers.Aes256.encrypt_block.Goals as goal

pub returns : goal.returns
returns c key holds = c.lanes_of.ensures ∙ c.encrypt_eight.ensures key holds 0 (lit< tt) ∙ ap (cipher key) (sixteen_is c.args.block.now c.told-block)
