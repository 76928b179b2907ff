-- Benches that were taken in: the lists that are kept, and each one's place among them.
use Rattle.std.proofs.Common.{◌≡◌, refl, sym, ◌∙◌, ap, subst, ℕ, zero, suc, ◌+◌, ◌<◌, ◌≤◌, List, [], ◌∷◌, ◌++◌, length, get_or, slice_index_or, arith, append-nil, append_assoc}
use Rattle.std.specs.List.{All}
use Rattle.std.proofs.lemmas.List.{length_push}
use Rattle.std.proofs.lemmas.List.Elements.{All-head, All-tail}
use Rattle.step_core.specs.declared.items.Taken.{Taken}
use Rattle.trace_table.specs.Benches.{BenchSeen, bench_of, has_one_out, has_taken_in}
use Rattle.leaf_dispatch.specs.declared.states.LpState.{LpState}
use Rattle.lp_threads.specs.declared.lanes.Lane.{Lane}
use Rattle.run_texts.specs.Lanes.{benches_of, AreInPlace, has_out, with_all}

-- the lists of benches, one behind another
abbrev pub lists_in : List BenchSeen → List (List Taken)
lists_in [] = []
lists_in (b ∷ bs) = b.pass.lists ++ lists_in bs

pub with-all-lists : (b : BenchSeen) (bs : List BenchSeen) → (with_all b bs).pass.lists ≡ b.pass.lists ++ lists_in bs
with-all-lists b [] = sym (append-nil b.pass.lists)
with-all-lists b (c ∷ cs) = with-all-lists (has_taken_in b c) cs ∙ append_assoc b.pass.lists c.pass.lists (lists_in cs)

pub with-all-out : (b : BenchSeen) (bs : List BenchSeen) → length bs ≡ b.pass.out → (with_all b bs).pass.out ≡ 0
with-all-out b [] h = sym h
with-all-out b (c ∷ cs) h = with-all-out (has_taken_in b c) cs (omega (arith, h))

pub with-all-table : (b : BenchSeen) (bs : List BenchSeen) → (with_all b bs).pass.table ≡ b.pass.table
with-all-table b [] = refl
with-all-table b (c ∷ cs) = with-all-table (has_taken_in b c) cs

pub with-all-first : (b : BenchSeen) (bs : List BenchSeen) → (with_all b bs).pass.first ≡ b.pass.first
with-all-first b [] = refl
with-all-first b (c ∷ cs) = with-all-first (has_taken_in b c) cs

-- one more
pub with-all-more : (b : BenchSeen) (bs : List BenchSeen) (c : BenchSeen) → with_all b (bs ++ c ∷ []) ≡ has_taken_in (with_all b bs) c
with-all-more b [] c = refl
with-all-more b (x ∷ xs) c = with-all-more (has_taken_in b x) xs c

-- a bench that keeps its own list alone
abbrev pub HasOne : BenchSeen → Type 0
HasOne b = (xs : List Taken) × (b.pass.lists ≡ xs ∷ [])

-- of such benches each one's list stands at its place
pub one-at : (bs : List BenchSeen) (p : ℕ) (d : BenchSeen) → p < length bs → All HasOne bs → (get_or bs p d).pass.lists ≡ slice_index_or (lists_in bs) p [] ∷ []
one-at [] p d h each = absurd (omega arith)
one-at (b ∷ bs) zero d h each =
    let one = All-head HasOne b bs each in
    subst (λ (ls : List (List Taken)). ls ≡ slice_index_or (ls ++ lists_in bs) 0 [] ∷ []) (sym one.1) refl
one-at (b ∷ bs) (suc p) d h each =
    let one = All-head HasOne b bs each in
    subst (λ (ls : List (List Taken)). (get_or bs p d).pass.lists ≡ slice_index_or (ls ++ lists_in bs) (suc p) [] ∷ []) (sym one.1) (one-at bs p d (omega arith) (All-tail HasOne b bs each))

-- and none behind them
pub none-beyond : (bs : List BenchSeen) (k : ℕ) → length bs ≤ k → All HasOne bs → slice_index_or (lists_in bs) k [] ≡ []
none-beyond [] k h each = refl
none-beyond (b ∷ bs) zero h each = absurd (omega arith)
none-beyond (b ∷ bs) (suc k) h each =
    let one = All-head HasOne b bs each in
    subst (λ (ls : List (List Taken)). slice_index_or (ls ++ lists_in bs) (suc k) [] ≡ []) (sym one.1) (none-beyond bs k (omega arith) (All-tail HasOne b bs each))

-- one lane more, which has the next number
pub in-place-more : (n : ℕ) (lanes : List (Lane LpState)) (x : Lane LpState) → AreInPlace n lanes → x.lp ≡ n + length lanes → AreInPlace n (lanes ++ x ∷ [])
in-place-more n [] x h e = (omega (arith, e), tt)
in-place-more n (a ∷ lanes) x h e = (h.0, in-place-more (suc n) lanes x h.1 (omega (arith, e)))

-- one more bench out
pub out-more : {A : Type 0} (b now new : BenchSeen) (ys : List A) (y : A) → now ≡ has_out b (length ys) → new ≡ has_one_out now → new ≡ has_out b (length (ys ++ y ∷ []))
out-more b now new ys y h e =
    e ∙ (ap has_one_out h ∙ ap (λ (k : ℕ). record b { pass = record b.pass { out = k } }) (omega (arith, length_push ys y)))

-- an iterator that has nothing left gave all
pub all-given : {A : Type 0} (ys left all : List A) (n : ℕ) → ys ++ left ≡ all → n ≡ length left → n ≡ 0 → ys ≡ all
all-given ys [] all n h count none = sym (append-nil ys) ∙ h
all-given ys (x ∷ left) all n h count none = absurd (omega (arith, count, none))

-- what holds of each bench holds of the next one
pub bench-here : (P : BenchSeen → Type 0) (ys rest all : List (Lane LpState)) (x : Lane LpState) → ys ++ x ∷ rest ≡ all → All P (benches_of all) → P (bench_of x.bench)
bench-here P [] rest all x e h = All-head P (bench_of x.bench) (benches_of rest) (subst (λ (zs : List (Lane LpState)). All P (benches_of zs)) (sym e) h)
bench-here P (y ∷ ys) rest all x e h =
    bench-here P ys rest (ys ++ x ∷ rest) x refl (All-tail P (bench_of y.bench) (benches_of (ys ++ x ∷ rest)) (subst (λ (zs : List (Lane LpState)). All P (benches_of zs)) (sym e) h))
