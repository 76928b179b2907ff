use Rattle.lock_words.proofs.Follow.{lock-words-follow}
use Rattle.lock_words.proofs.Heads.{start-follows}
use Rattle.lock_words.proofs.Runs.{runs-follow}
use Rattle.lock_words.proofs.laws.lock_words_follow.Goals as goal

pub returns-clause-follow : goal.returns-clause-follow
returns-clause-follow c = lock-words-follow

pub returns-clause-start : goal.returns-clause-start
returns-clause-start c = start-follows

pub returns-clause-runs : goal.returns-clause-runs
returns-clause-runs c = runs-follow
