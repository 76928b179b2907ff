-- The table as it is made meets the rule.
use Rattle.std.proofs.Common.{◌≡◌, refl, sym, ap, subst, ℕ, zero, suc, ◌+◌, ◌<◌, true, false, Bool, List, [], ◌∷◌, length, map, replicate, Option, None, arith, slice_index}
use mathlib.Core.Option.{some, some-injective, some-ne-none}
use lib.ListN.{get_elem?}
use Rattle.atomic_table.specs.Table.{opening}
use Rattle.td_words.specs.declared.machines.Machine.{Machine}
use Rattle.mrtd_measure.specs.declared.measures.Measure.{Measure}
use Rattle.step_core.specs.Words.{word_count}
use Rattle.step_core.specs.declared.items.Taken.{Taken}
use Rattle.trace_table.specs.declared.told.Told.{Told}
use Rattle.trace_table.specs.Merges.{no_table}
use Rattle.trace_table.specs.Views.{guards, first_told}
use Rattle.trace_table.specs.Kept.{TableState, Holders, IsList, IsTrue, Kept, due_at}
use Rattle.trace_table.proofs.Lists.{none-some}

zeros : (n i : ℕ) → slice_index (replicate n 0) i ≡ 0
zeros zero i = refl
zeros (suc n) zero = refl
zeros (suc n) (suc i) = zeros n i

pub all-length : {A : Type 0} (n : ℕ) (x : A) → length (replicate n x) ≡ n
all-length zero x = refl
all-length (suc n) x = ap suc (all-length n x)

homes-at : (n j : ℕ) → j < n → get_elem? (map some (replicate {A = Option Measure} n None)) j ≡ some (some None)
homes-at zero j lt = absurd (omega (arith, lt))
homes-at (suc n) zero lt = refl
homes-at (suc n) (suc j) lt = homes-at n j (omega (arith, lt))

pub true-false : true ≡ false → ⊥
true-false e = subst (λ (b : Bool). elim b as (λ z. Type 0) [ true ↦ Unit {0} | false ↦ ⊥ ]) e tt

-- who holds what at the start: there is one list, of the first seat
abbrev nobody : Holders
nobody = record { base = λ id. 0; owner = λ p. 0; taker = λ j. 0; due = λ p. None; kept = 1; total = 1 }

first-list : (q : ℕ) (xs : List Taken) → get_elem? first_told.lists q ≡ some xs → IsList [] nobody 0 (0 + q) xs (due_at None q)
first-list zero xs e = record { owner = refl; is = some-injective [] xs e; due_is = refl; inside = omega arith }
first-list (suc q) xs e = absurd (some-ne-none xs (sym e))

first-true : (m : Machine) (s : TableState) → IsTrue m s [] no_table nobody 0 first_told
first-true m s = record {
  lists = first-list;
  first = λ e. (refl, refl, refl);
  other = λ e. absurd (true-false e);
  busy = λ x e. absurd (none-some x e);
}

pub opens : (m : Machine) (words : List ℕ) (homes : List (Option Measure)) → m.hkids < guards → words ≡ replicate (guards + word_count m) 0 → homes ≡ replicate m.hkids None → Kept m (opening words homes first_told)
opens m words homes narrow ws hs = subst (λ (z : List ℕ). Kept m (opening z homes first_told)) (sym ws) (subst (λ (z : List (Option Measure)). Kept m (opening (replicate (guards + word_count m) 0) z first_told)) (sym hs) opened)
  where
    next_state : TableState
    next_state = opening (replicate (guards + word_count m) 0) (replicate m.hkids None) first_told

    views-are : (id : ℕ) (v : Told) → get_elem? (first_told ∷ []) id ≡ some v → IsTrue m (opening (replicate (guards + word_count m) 0) (replicate m.hkids None) first_told) [] no_table nobody id v
    views-are zero v e = subst (λ (z : Told). IsTrue m (opening (replicate (guards + word_count m) 0) (replicate m.hkids None) first_told) [] no_table nobody 0 z) (some-injective first_told v e) (first-true m (opening (replicate (guards + word_count m) 0) (replicate m.hkids None) first_told))
    views-are (suc id) v e = absurd (some-ne-none v (sym e))

    opened : Kept m (opening (replicate (guards + word_count m) 0) (replicate m.hkids None) first_told)
    opened = record {
      narrow = narrow;
      made = [];
      table = no_table;
      holders = nobody;
      plays = refl;
      wide = all-length (guards + word_count m) 0;
      words = λ n lt. zeros (guards + word_count m) (guards + n);
      slots = λ j lt. ((λ z. homes-at m.hkids j lt), (λ nz. absurd (nz (zeros (guards + word_count m) j))));
      views = views-are;
      nothing_else = λ p h. (refl, refl);
    }
