use Rattle.std.proofs.Common.{◌∙◌, sym, ap}
use Rattle.td_words.specs.declared.replies.Reply.{Reply}
use Rattle.leaf_engine.specs.Guests.{operated}
use Rattle.leaf_dispatch.specs.Guests.{guest_seen}
use Rattle.leaf_dispatch.proofs.guests.operate_on.Goals as goal

pub returns-in-Done-clause-seen : goal.returns-in-Done-clause-seen
returns-in-Done-clause-seen c = λ run. c.pass_on.ensures.seen run ∙ sym (ap (λ (r : Reply). operated r (guest_seen c.args.guest.now run)) c.in-Done.is)

pub returns-in-Exited-clause-seen : goal.returns-in-Exited-clause-seen
returns-in-Exited-clause-seen c = λ run. c.exit_on.ensures.seen run ∙ sym (ap (λ (r : Reply). operated r (guest_seen c.args.guest.now run)) c.in-Exited.is)

pub returns-in-Refused-clause-seen : goal.returns-in-Refused-clause-seen
returns-in-Refused-clause-seen c = λ run. c.refuse_on.ensures.seen run ∙ sym (ap (λ (r : Reply). operated r (guest_seen c.args.guest.now run)) c.in-Refused.is)
