use Rattle.lock_words.proofs.Anchored.{td-locks-stay}
use Rattle.lock_words.proofs.Heads.{heads-stand}
use Rattle.lock_words.proofs.laws.td_locks_stay.Goals as goal

pub returns-clause-stay : goal.returns-clause-stay
returns-clause-stay c = td-locks-stay

pub returns-clause-stand : goal.returns-clause-stand
returns-clause-stand c = heads-stand
