use Rattle.lock_words.proofs.Shown.{lock-steps-shown}
use Rattle.lock_words.proofs.laws.lock_steps_shown.Goals as goal

pub returns : goal.returns
returns c = lock-steps-shown c.event_laws.ensures.quiet
