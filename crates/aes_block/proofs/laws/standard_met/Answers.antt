use Rattle.std.proofs.Common.{refl}
use Rattle.aes_block.proofs.Known.{sub_example, cipher_example}
use Rattle.aes_block.proofs.Table.{inverse_is}
use Rattle.aes_block.proofs.laws.standard_met.Goals as goal

pub returns : goal.returns
returns c = record { inverse_is = inverse_is; zero_is = refl; sub_is = sub_example; cipher_is = cipher_example }
