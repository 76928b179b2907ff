use Rattle.script_words.proofs.Given.{scripts_give}
use Rattle.script_words.proofs.laws.scripts_give_words.Goals as goal

pub returns : goal.returns
returns c = scripts_give
