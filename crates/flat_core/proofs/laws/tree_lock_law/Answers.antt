use Rattle.flat_core.proofs.TreeLock.{order_kept, tree_free, tree_is_never_busy}
use Rattle.flat_core.proofs.laws.tree_lock_law.Goals as goal

pub returns-clause-kept : goal.returns-clause-kept
returns-clause-kept c = order_kept

pub returns-clause-free : goal.returns-clause-free
returns-clause-free c = tree_free

pub returns-clause-run : goal.returns-clause-run
returns-clause-run c = tree_is_never_busy
