use Rattle.std.proofs.Common.{◌≡◌}
use Rattle.lp_threads.specs.Running.{HasTurned}
use Rattle.lp_threads.proofs.runs.run_one.Given as goal

abbrev pub invariant-loop-events : goal.invariant-loop-events
invariant-loop-events g l = record {
  machine : g.P.Processor.machine l.lane.processor ≡ l.lane.bench.machine;
  turned : HasTurned g.P.Processor.moves l.initial.lane l.lane;
}

abbrev pub decreases-loop-events : goal.decreases-loop-events
decreases-loop-events g l = g.P.Processor.bound l.lane.processor
