use Rattle.std.proofs.Common.{◌∙◌, sym, ap}
use Rattle.td_words.specs.declared.refusals.Status.{Status}
use Rattle.td_words.specs.declared.replies.Reply.TheVariants.{Refused}
use Rattle.leaf_engine.specs.Guests.{operated}
use Rattle.leaf_dispatch.specs.Guests.{guest_seen}
use Rattle.leaf_dispatch.proofs.guests.refuse_on.Goals as goal

pub returns-clause-seen : goal.returns-clause-seen
returns-clause-seen c = λ run. c.leave_with.ensures.seen run ∙ sym (ap (λ (s : Status). operated (Refused s) (guest_seen c.args.guest run)) c.in-OperandBusy.is)
