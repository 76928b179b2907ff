use Rattle.std.proofs.Common.{◌≡◌}
use Rattle.trace_table.specs.Benches.{bench_of}
use Rattle.trace_table_rows.proofs.threads.raise.Given as goal

-- the bench is of the same machine and table, and what it is among the benches stays
abbrev pub invariant-loop : goal.invariant-loop
invariant-loop l =
    ((bench_of l.bench).machine ≡ (bench_of l.initial.bench).machine)
    × ((bench_of l.bench).pass.table ≡ (bench_of l.initial.bench).pass.table)
    × ((bench_of l.bench).pass.first ≡ (bench_of l.initial.bench).pass.first)
    × ((bench_of l.bench).pass.out ≡ (bench_of l.initial.bench).pass.out)
