use Rattle.std.proofs.Common.{refl}
use Rattle.command_files.proofs.Taken.{no_secrets_file}
use Rattle.command_files.proofs.inputs.no_words.Goals as goal

pub returns : goal.returns
returns c = no_secrets_file _ _ refl c.zeros.ensures
