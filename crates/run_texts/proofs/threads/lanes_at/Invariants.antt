use Rattle.std.proofs.Common.{◌≡◌, ◌++◌, length}
use Rattle.std.specs.List.{All}
use Rattle.std.specs.Vec.Iter.{into_iter_items, into_iter_len}
use Rattle.trace_table.specs.Benches.{bench_of, new_bench}
use Rattle.run_texts.specs.Lanes.{processors_of, AreInPlace, has_out}
use Rattle.run_texts.proofs.threads.lanes_at.Given as goal

abbrev pub invariant-loop-processor : goal.invariant-loop-processor
invariant-loop-processor l = record {
  left : l.yielded ++ into_iter_items l.processor-iterator ≡ into_iter_items l.initial.processor-iterator;
  number : into_iter_len l.processor-iterator ≡ length (into_iter_items l.processor-iterator);
  processors : processors_of l.lanes.items ≡ l.yielded;
  numbers : AreInPlace 0 l.lanes.items;
  benches : All (λ a. bench_of a.bench ≡ new_bench (bench_of l.initial.first)) l.lanes.items;
  first : bench_of l.first ≡ has_out (bench_of l.initial.first) (length l.yielded);
}
