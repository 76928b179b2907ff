use Rattle.std.proofs.Common.{◌≡◌, [], length}
use Rattle.leaf_dispatch.specs.Bounds.{events_left}
use Rattle.trace_table.specs.Benches.{bench_of}
use Rattle.leaf_table.specs.Given.{given_in}
use Rattle.run_texts.specs.Openings.{opening_of}
use Rattle.run_texts.specs.Replaying.{HaveEnded, seen_at}
use Rattle.run_texts.specs.Looking.{IsLeft}
use Rattle.run_texts.proofs.turns.finish.Given as goal

abbrev pub invariant-loop-moved : goal.invariant-loop-moved
invariant-loop-moved g l = record {
  count : length l.lps ≡ length l.initial.lps;
  ended : HaveEnded l.lp l.lps;
  left : IsLeft (g.W.Onlooker.seeks l.onlooker) (given_in l.given) l.script [] l.seen l.lps (bench_of l.initial.bench).pass.table l.bench;
}

abbrev pub decreases-loop-moved : goal.decreases-loop-moved
decreases-loop-moved g l = events_left (opening_of (given_in l.given) l.script).codes (seen_at l.lps l.lp)
