use Rattle.std.proofs.Common.{◌≡◌, ◌++◌, length}
use Rattle.std.specs.Vec.Iter.{into_iter_items, into_iter_len}
use Rattle.trace_table.specs.Benches.{bench_of}
use Rattle.run_texts.specs.Lanes.{processors_of, benches_of, with_all}
use Rattle.run_texts.proofs.threads.taken_in.Given as goal

abbrev pub invariant-loop-lane : goal.invariant-loop-lane
invariant-loop-lane l = record {
  left : l.yielded ++ into_iter_items l.lane-iterator ≡ into_iter_items l.initial.lane-iterator;
  number : into_iter_len l.lane-iterator ≡ length (into_iter_items l.lane-iterator);
  processors : l.states.items ≡ processors_of l.yielded;
  first : bench_of l.first ≡ with_all (bench_of l.initial.first) (benches_of l.yielded);
}
