use Rattle.std.proofs.Common.{◌∙◌, sym, ap}
use Rattle.td_words.specs.declared.replies.Outcome.{Outcome}
use Rattle.leaf_engine.specs.Guests.{exited_with}
use Rattle.leaf_dispatch.specs.Guests.{guest_seen}
use Rattle.leaf_dispatch.proofs.guests.exit_on.Goals as goal

pub returns-in-Vmcall-clause-seen : goal.returns-in-Vmcall-clause-seen
returns-in-Vmcall-clause-seen c = λ run. c.leave_with.ensures.seen run ∙ sym (ap (λ (o : Outcome). exited_with o (guest_seen c.args.guest run)) c.in-Vmcall.is)

pub returns-in-Stop-clause-seen : goal.returns-in-Stop-clause-seen
returns-in-Stop-clause-seen c = λ run. c.leave_with-in-Stop.ensures.seen run ∙ sym (ap (λ (o : Outcome). exited_with o (guest_seen c.args.guest run)) c.in-Stop.is)

pub returns-in-Max-clause-seen : goal.returns-in-Max-clause-seen
returns-in-Max-clause-seen c = λ run. c.leave_with-in-Max.ensures.seen run ∙ sym (ap (λ (o : Outcome). exited_with o (guest_seen c.args.guest run)) c.in-Max.is)

pub returns-in-EptViolation-clause-seen : goal.returns-in-EptViolation-clause-seen
returns-in-EptViolation-clause-seen c = λ run. c.leave_with-in-EptViolation.ensures.seen run ∙ sym (ap (λ (o : Outcome). exited_with o (guest_seen c.args.guest run)) c.in-EptViolation.is)

pub returns-in-Busy-clause-seen : goal.returns-in-Busy-clause-seen
returns-in-Busy-clause-seen c = λ run. c.leave_with-in-Busy.ensures.seen run ∙ sym (ap (λ (o : Outcome). exited_with o (guest_seen c.args.guest run)) c.in-Busy.is)
