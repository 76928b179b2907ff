use Rattle.word_rules.proofs.Conflicts.{no-conflict, no-later-conflict}
use Rattle.word_rules.proofs.laws.words_never_conflict.Goals as goal

pub returns-clause-words : goal.returns-clause-words
returns-clause-words c = no-conflict

pub returns-clause-acts : goal.returns-clause-acts
returns-clause-acts c = no-later-conflict
