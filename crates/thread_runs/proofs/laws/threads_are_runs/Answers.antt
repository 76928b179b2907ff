use Rattle.thread_runs.proofs.Threads.{threads-run}
use Rattle.thread_runs.proofs.laws.threads_are_runs.Goals as goal

pub returns : goal.returns
returns c = threads-run c.calls_have_leaves.ensures c.merge_law.ensures
