use Rattle.flat_core.proofs.GuestOrder.{operations_try_lists, guest_order_kept, guest_order_holds}
use Rattle.flat_core.proofs.laws.guest_order_law.Goals as goal

pub returns-clause-lists : goal.returns-clause-lists
returns-clause-lists c = operations_try_lists

pub returns-clause-kept : goal.returns-clause-kept
returns-clause-kept c = guest_order_kept

pub returns-clause-run : goal.returns-clause-run
returns-clause-run c = guest_order_holds
