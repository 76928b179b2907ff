use Rattle.gcm_seal.proofs.Known.{tag_13, text_14, tag_14}
use Rattle.gcm_seal.proofs.Mixing.{mixed-mixed}
use Rattle.gcm_seal.proofs.laws.gcm_standard_met.Goals as goal

pub returns : goal.returns
returns c = record { sealing_undone = mixed-mixed; empty_tag = tag_13; block_text = text_14; block_tag = tag_14 }
