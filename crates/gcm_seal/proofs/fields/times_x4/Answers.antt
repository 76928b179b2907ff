use Rattle.std.proofs.Common.{◌∙◌, ap}
use Rattle.gcm_seal.specs.Gcm.{times_x}
use Rattle.gcm_seal.specs.Tables.{raised}
use Rattle.gcm_seal.proofs.fields.times_x4.Goals as goal

pub returns : goal.returns
unfolding raised
returns c = c.times_x-4.ensures ∙ ap times_x (c.times_x-3.ensures ∙ ap times_x (c.times_x-2.ensures ∙ ap times_x c.times_x.ensures))
