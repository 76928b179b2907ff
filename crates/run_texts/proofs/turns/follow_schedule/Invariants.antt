use Rattle.std.proofs.Common.{◌≡◌, drop, length}
use Rattle.trace_table.specs.Benches.{bench_of}
use Rattle.leaf_table.specs.Given.{given_in}
use Rattle.run_texts.specs.Replaying.{HaveEnded}
use Rattle.run_texts.specs.Looking.{IsLeft}
use Rattle.run_texts.proofs.turns.follow_schedule.Given as goal

abbrev pub invariant-loop-item : goal.invariant-loop-item
invariant-loop-item g l = record {
  count : length l.lps ≡ length l.initial.lps;
  ended : HaveEnded l.ended l.lps;
  left : IsLeft (g.W.Onlooker.seeks l.onlooker) (given_in l.given) l.script (drop l.item l.script.schedule) l.seen l.lps (bench_of l.initial.bench).pass.table l.bench;
}
