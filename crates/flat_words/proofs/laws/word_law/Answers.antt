use Rattle.flat_words.proofs.Words.{events_keep_words, runs_hold_words, bundles_have_words}
use Rattle.flat_words.proofs.laws.word_law.Goals as goal

pub returns-clause-kept : goal.returns-clause-kept
returns-clause-kept c = events_keep_words

pub returns-clause-runs : goal.returns-clause-runs
returns-clause-runs c = runs_hold_words

pub returns-clause-bundles : goal.returns-clause-bundles
returns-clause-bundles c = bundles_have_words
