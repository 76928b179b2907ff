-- What a plan is that was read.
use Rattle.std.proofs.Common.{◌≡◌, ℕ, ◌+◌, ◌-◌, ◌^◌, ◌<◌, ◌≤◌, List, [], ◌∷◌, length, drop, get_or, Bool, true, false, cond, ◌==◌, ◌&&◌, Option, Some, None, Result, Ok, Err, refl, sym, ap, subst, arith}
use Rattle.std.specs.Prelude.{nat_le, nat_lt}
use Rattle.std.specs.List.{All}
use Rattle.std.proofs.lemmas.Bool.{and_parts}
use Rattle.std.proofs.lemmas.List.Elements.{All-nil, All-cons}
use Rattle.line_words.specs.Number.{number}
use Rattle.line_words.specs.Words.{pieces}
use Rattle.pair_runner.specs.declared.plans.PlanItem.{PlanItem}
use Rattle.pair_runner.specs.Plans.{is_plain, in_range, events_in, is_module, with_events, item_in, line_in, before, items_from, plan_in}
use Rattle.pair_runner.specs.Laws.{IsItem, IsPlan}

when : {X : Type 0} (b : Bool) (x : Option X) (i : X) → cond b x None ≡ Some i → (b ≡ true) × (x ≡ Some i)
when true x i h = (refl, h)
when false x i h = absurd (cc)

range_is : (x : Option ℕ) (k : ℕ) → in_range x ≡ Some k → (1 ≤ k) × (k ≤ 2 ^ 20)
range_is None k h = absurd (cc)
range_is (Some n) k h =
    let w = when (nat_le 1 n && nat_le n (2 ^ 20)) (Some n) k h in
    let e : n ≡ k = cc in
    let p = and_parts (nat_le 1 n) (nat_le n (2 ^ 20)) w.0 in
    let low : 1 ≤ n = grind (arith, p.0) in
    let high : n ≤ 2 ^ 20 = grind (arith, p.1) in
    (omega (arith, e, low), omega (arith, e, high))

with_is : (m : ℕ) (x : Option ℕ) (i : PlanItem) → with_events m x ≡ Some i → (i.«module» ≡ m) × (x ≡ Some i.events)
with_is m None i h = absurd (cc)
with_is m (Some k) i h =
    let made : PlanItem = record { «module» = m; events = k } in
    let e : i ≡ made = cc in
    (ap (λ (j : PlanItem). j.«module») e, ap (λ (j : PlanItem). Some j.events) (sym e))

line_fits : (modules n : ℕ) (line : List ℕ) (i : PlanItem) → line_in modules n line ≡ Some i → (n ≤ 4096) × IsItem modules i
line_fits modules n line i h =
    let letter : ℕ = get_or line 0 0 in
    let a = when (nat_le n 4096) (item_in modules line) i h in
    let b = when (nat_le 2 (length line) && (is_module modules letter && (get_or line 1 0 == 32))) (with_events (letter - 65) (events_in (drop 2 line))) i a.1 in
    let c = and_parts (nat_le 2 (length line)) (is_module modules letter && (get_or line 1 0 == 32)) b.0 in
    let d = and_parts (is_module modules letter) (get_or line 1 0 == 32) c.1 in
    let m = and_parts (nat_le 65 letter) (nat_lt letter (65 + modules)) d.0 in
    let w = with_is (letter - 65) (events_in (drop 2 line)) i b.1 in
    let k = when (is_plain (drop 2 line)) (in_range (number (drop 2 line))) i.events w.1 in
    let r = range_is (number (drop 2 line)) i.events k.1 in
    let few : n ≤ 4096 = grind (arith, a.0) in
    let low : 65 ≤ letter = grind (arith, m.0) in
    let high : letter < 65 + modules = grind (arith, m.1) in
    (few, record { «module» = omega (arith, w.0, low, high); some = r.0; most = r.1 })

before_is : (n : ℕ) (x : Option PlanItem) (read : Result (List PlanItem) ℕ) (plan : List PlanItem) → before n x read ≡ Ok plan → (i : PlanItem) × (is : List PlanItem) × (x ≡ Some i) × (read ≡ Ok is) × (plan ≡ i ∷ is)
before_is n None read plan h = absurd (cc)
before_is n (Some i) (Ok is) plan h = (i, is, refl, refl, cc)
before_is n (Some i) (Err m) plan h = absurd (cc)

last_is : (b : Bool) (n : ℕ) (plan : List PlanItem) → (let none : Result (List PlanItem) ℕ = Ok [] in cond b none (Err n) ≡ Ok plan) → plan ≡ []
last_is true n plan h = cc
last_is false n plan h = absurd (cc)

abbrev Fits : ℕ → ℕ → List PlanItem → Type 0
Fits modules n plan = (n + length plan ≤ 4097) × All (IsItem modules) plan

none_fit : (modules n : ℕ) (plan : List PlanItem) → n ≤ 4097 → plan ≡ [] → Fits modules n plan
none_fit modules n plan few e = subst (Fits modules n) (sym e) (omega (arith, few), All-nil (IsItem modules))

items_fit : (modules n : ℕ) (ps : List (List ℕ)) (plan : List PlanItem) → n ≤ 4097 → items_from modules n ps ≡ Ok plan → Fits modules n plan
items_fit modules n [] plan few h = none_fit modules n plan few (cc)
items_fit modules n (line ∷ []) plan few h = none_fit modules n plan few (last_is (length line == 0) n plan h)
items_fit modules n (line ∷ next ∷ more) plan few h =
    let p = before_is n (line_in modules n line) (items_from modules (n + 1) (next ∷ more)) plan h in
    let f = line_fits modules n line p.0 p.2 in
    let rest = items_fit modules (n + 1) (next ∷ more) p.1 (omega (arith, f.0)) p.3 in
    subst (Fits modules n) (sym p.4) (omega (arith, rest.0), All-cons (IsItem modules) p.0 p.1 f.1 rest.1)

within : (b : Bool) (read : Result (List PlanItem) ℕ) (plan : List PlanItem) → cond b (Err 0) read ≡ Ok plan → read ≡ Ok plan
within true read plan h = absurd (cc)
within false read plan h = h

pub form_of : (modules : ℕ) (bytes : List ℕ) (plan : List PlanItem) → plan_in modules bytes ≡ Ok plan → IsPlan modules plan
form_of modules bytes plan h =
    let f = items_fit modules 1 (pieces bytes) plan (omega arith) (within (nat_lt (2 ^ 16) (length bytes)) (items_from modules 1 (pieces bytes)) plan h) in
    record { lines = omega (arith, f.0); items = f.1 }
