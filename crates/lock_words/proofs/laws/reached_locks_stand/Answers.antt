use Rattle.lock_words.proofs.Reached.{soundness-kept, sound-locks-stand, every-tdr-held, every-lock-stands, every-try-stands}
use Rattle.lock_words.proofs.laws.reached_locks_stand.Goals as goal

pub returns-clause-kept : goal.returns-clause-kept
returns-clause-kept c = soundness-kept

pub returns-clause-sound : goal.returns-clause-sound
returns-clause-sound c = sound-locks-stand

pub returns-clause-tdrs : goal.returns-clause-tdrs
returns-clause-tdrs c = every-tdr-held

pub returns-clause-stand : goal.returns-clause-stand
returns-clause-stand c = every-lock-stands

pub returns-clause-tried : goal.returns-clause-tried
returns-clause-tried c = every-try-stands
