-- The lanes of a script's processors, and benches that are made and taken in one after another.
use Rattle.std.specs.Prelude.{◌≡◌, ℕ, suc, ◌+◌, false, List, [], ◌∷◌, map}
use Rattle.trace_table.specs.Benches.{BenchSeen, bench_of, has_taken_in}
use Rattle.leaf_dispatch.specs.declared.states.LpState.{LpState}
use Rattle.lp_threads.specs.declared.lanes.Lane.{Lane}

-- the processors of lanes, and what is seen of their benches
abbrev pub processors_of : List (Lane LpState) → List LpState
processors_of = map (λ a. a.processor)

abbrev pub benches_of : List (Lane LpState) → List BenchSeen
benches_of = map (λ a. bench_of a.bench)

-- each lane has its place as its number, from n on
abbrev pub AreInPlace : ℕ → List (Lane LpState) → Type 0
AreInPlace n [] = Unit {0}
AreInPlace n (a ∷ lanes) = (a.lp ≡ n) × AreInPlace (suc n) lanes

-- a bench that has so many more out
abbrev pub has_out : BenchSeen → ℕ → BenchSeen
has_out b n = record b { pass = record b.pass { out = b.pass.out + n } }

-- a bench that one made which is at the same table, or one like it that was used since
abbrev pub IsOther : BenchSeen → BenchSeen → Type 0
IsOther b c = (c.pass.table ≡ b.pass.table) × (c.pass.first ≡ false)

-- a bench that took these in, in order
abbrev pub with_all : BenchSeen → List BenchSeen → BenchSeen
with_all b [] = b
with_all b (c ∷ cs) = with_all (has_taken_in b c) cs
