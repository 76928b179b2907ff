use Rattle.word_rules.proofs.Fits.{leaf_table_fits}
use Rattle.word_rules.proofs.Listed.{lists-are-rows}
use Rattle.word_rules.proofs.laws.leaf_table_fits.Goals as goal

pub returns-clause-lists : goal.returns-clause-lists
returns-clause-lists c = leaf_table_fits

pub returns-clause-rows : goal.returns-clause-rows
returns-clause-rows c = lists-are-rows
