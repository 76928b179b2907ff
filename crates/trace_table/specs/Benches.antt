-- What contracts see of passes and benches.
use Rattle.std.specs.Prelude.{◌≡◌, ℕ, ◌+◌, ◌-◌, Bool, true, false, Option, List, [], ◌∷◌, ◌++◌}
use Rattle.atomic_table.specs.Seated.{TableId}
use Rattle.atomic_table.specs.declared.shared.Seat.{Seat}
use Rattle.td_words.specs.declared.machines.Machine.{Machine}
use Rattle.mrtd_measure.specs.declared.measures.Measure.{Measure}
use Rattle.step_core.specs.declared.items.Taken.{Taken}
use Rattle.trace_table.specs.declared.told.Told.{Told}
use Rattle.trace_table.specs.declared.passes.Pass.{Pass}
use Rattle.trace_table.specs.declared.tables.SharedTable.{SharedTable}
use Rattle.trace_table.specs.declared.benches.SharedBench.{SharedBench}
use Rattle.trace_table.specs.Views.{grown_in}

-- its table; whether it is the first; the lists that it keeps, its own first; and how many benches it has out
pub record PassSeen : Type 0 where
  pub table : TableId
  pub first : Bool
  pub lists : List (List Taken)
  pub out : ℕ

-- a bench is of a machine besides
pub record BenchSeen : Type 0 where
  pub machine : Machine
  pub pass : PassSeen

abbrev pub seat_of : Seat (Option Measure) Told → PassSeen
seat_of s = record { table = s.table_id; first = s.me.0.first; lists = s.me.0.lists; out = s.me.0.out }

abbrev pub pass_of : Pass → PassSeen
pass_of p = seat_of p.seat

abbrev pub bench_of : SharedBench → BenchSeen
bench_of b = record { machine = b.machine; pass = seat_of b.seat }

abbrev pub table_of : SharedTable → TableId
table_of t = t.table.shared.table_id

-- the pass that a table is started with
abbrev pub first_pass : TableId → PassSeen
first_pass t = record { table = t; first = true; lists = [] ∷ []; out = 0 }

-- a bench that another one makes, which then has one more out
abbrev pub new_bench : BenchSeen → BenchSeen
new_bench b = record b { pass = record { table = b.pass.table; first = false; lists = [] ∷ []; out = 0 } }

abbrev pub has_one_out : BenchSeen → BenchSeen
has_one_out b = record b { pass = record b.pass { out = b.pass.out + 1 } }

-- a bench keeps the lists of one that it takes in behind its own, and has one less out
abbrev pub has_taken_in : BenchSeen → BenchSeen → BenchSeen
has_taken_in b c = record b { pass = record b.pass { lists = b.pass.lists ++ c.pass.lists; out = b.pass.out - 1 } }

-- a bench whose own list has these items more
abbrev pub with_items : BenchSeen → List Taken → BenchSeen
with_items b xs = record b { pass = record b.pass { lists = grown_in b.pass.lists xs } }

-- A bench is told by its own list: these items came to it, and nothing else that is seen of it changed.
abbrev pub BenchDid : SharedBench → List Taken → SharedBench → Type 0
BenchDid a xs b = bench_of b ≡ with_items (bench_of a) xs

abbrev pub machine_of : SharedBench → Machine
machine_of b = b.machine
