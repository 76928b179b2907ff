-- Items that come to a bench one after another, as the bench's laws want it.
use Rattle.std.specs.Prelude.{◌≡◌, List, [], ◌∷◌, ◌++◌}
use Rattle.std.proofs.Common.{refl, sym, ap, ◌∙◌, append-nil, append_assoc}
use Rattle.step_core.specs.declared.items.Taken.{Taken}
use Rattle.trace_table.specs.declared.benches.SharedBench.{SharedBench}
use Rattle.trace_table.specs.Views.{grown_in}
use Rattle.trace_table.specs.Benches.{BenchSeen, bench_of, with_items, BenchDid}

grown_in-none : (ls : List (List Taken)) → grown_in ls [] ≡ ls
grown_in-none [] = refl
grown_in-none (own ∷ ls) = ap (λ (zs : List Taken). zs ∷ ls) (append-nil own)

grown_in-more : (ls : List (List Taken)) (xs ys : List Taken) → grown_in (grown_in ls xs) ys ≡ grown_in ls (xs ++ ys)
grown_in-more [] xs ys = refl
grown_in-more (own ∷ ls) xs ys = ap (λ (zs : List Taken). zs ∷ ls) (append_assoc own xs ys)

abbrev with_lists : BenchSeen → List (List Taken) → BenchSeen
with_lists b ls = record b { pass = record b.pass { lists = ls } }

pub bench_did-none : (b : SharedBench) → BenchDid b [] b
bench_did-none b = ap (with_lists (bench_of b)) (sym (grown_in-none (bench_of b).pass.lists))

pub bench_did-more : (a b c : SharedBench) (xs ys : List Taken) → BenchDid a xs b → BenchDid b ys c → BenchDid a (xs ++ ys) c
bench_did-more a b c xs ys p q = q ∙ (ap (λ (z : BenchSeen). with_items z ys) p ∙ ap (with_lists (bench_of a)) (grown_in-more (bench_of a).pass.lists xs ys))
