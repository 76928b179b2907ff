use Rattle.std.proofs.Common.{◌∙◌, Some, sym, ap}
use Rattle.leaf_engine.specs.Guests.{Step, stepped}
use Rattle.leaf_table.specs.Steps.{step_seen}
use Rattle.leaf_dispatch.specs.Guests.{guest_seen}
use Rattle.leaf_dispatch.proofs.guests.step_on.Goals as goal

pub returns-in-Operates-clause-kept : goal.returns-in-Operates-clause-kept
returns-in-Operates-clause-kept c = (rw c.operate_on.ensures.walk tt, c.operate_on.ensures.list)

pub returns-in-Accesses-clause-stepped : goal.returns-in-Accesses-clause-stepped
returns-in-Accesses-clause-stepped c = λ run. ap Some (c.pass_on.ensures.seen run) ∙ sym (ap (λ (s : Step). stepped s c.args.reply (guest_seen c.args.guest.now run)) (ap step_seen c.in-Accesses.is))

pub returns-in-Accesses-clause-kept : goal.returns-in-Accesses-clause-kept
returns-in-Accesses-clause-kept c = (rw c.pass_on.ensures.walk tt, c.pass_on.ensures.list)
