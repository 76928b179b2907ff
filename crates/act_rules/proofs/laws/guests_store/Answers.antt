use Rattle.act_rules.proofs.GuestActs.{guests-store-theirs, guarded-guests-store, every-guest-event-stores}
use Rattle.act_rules.proofs.OperationLocks.{operation-locks-kept, operation-locks-hold}
use Rattle.act_rules.proofs.laws.guests_store.Goals as goal

pub returns-clause-stores : goal.returns-clause-stores
returns-clause-stores c = guests-store-theirs

pub returns-clause-kept : goal.returns-clause-kept
returns-clause-kept c = operation-locks-kept

pub returns-clause-locks : goal.returns-clause-locks
returns-clause-locks c = operation-locks-hold

pub returns-clause-guarded : goal.returns-clause-guarded
returns-clause-guarded c = guarded-guests-store

pub returns-clause-run : goal.returns-clause-run
returns-clause-run c = every-guest-event-stores
