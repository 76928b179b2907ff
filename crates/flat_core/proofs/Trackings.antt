-- What it tells that a block is tracked, and that the previous epoch's count is 0.
use Rattle.std.proofs.Common.{◌≡◌, refl, sym, ◌∙◌, ap, ℕ, ◌+◌, ◌<◌, List, [], ◌∷◌, Option, Some, None, Bool, true, ◌==◌, nat_lt, arith}
use Rattle.std.specs.List.{list_any, list_all}
use Rattle.std.proofs.lemmas.Bool.{eq-eqb, eqb-true, and_parts, ltb-true}
use Rattle.flat_core.specs.Tracking.{tracked, entry_epochs, entered_at}
use Rattle.flat_core.proofs.Tests.{by_test}

-- each virtual processor in guest is one of those that are asked
pub among_epochs : (f : ℕ → Bool) (entered : ℕ → Option ℕ) (v e : ℕ) (vs : List ℕ) → list_all f (entry_epochs entered vs) ≡ true → list_any (λ q. q == v) vs ≡ true → entered v ≡ Some e → f e ≡ true
among_epochs f entered v e [] h here is = cc
among_epochs f entered v e (x ∷ vs) h here is = by (λ a b. among_epochs f entered v e vs a b is) (entered x) refl
  where
    by : (list_all f (entry_epochs entered vs) ≡ true → list_any (λ q. q == v) vs ≡ true → f e ≡ true) → (o : Option ℕ) → entered x ≡ o → f e ≡ true
    by rest None at = by_test (x == v)
        (λ y. absurd (let no : None ≡ Some e = sym at ∙ (ap entered (eqb-true x v y) ∙ is) in cc))
        (λ n. rest (rw at at h) (rw n at here))
    by rest (Some d) at =
        let both = and_parts (f d) (list_all f (entry_epochs entered vs)) (rw at at h) in
        by_test (x == v)
        (λ y. let same : Some d ≡ Some e = sym at ∙ (ap entered (eqb-true x v y) ∙ is) in let k : d ≡ e = cc in ap f (sym k) ∙ both.0)
        (λ n. rest both.1 (rw n at here))

-- of a block that is tracked: each entered later, and TD_EPOCH is later
pub entered_later : (blocked epoch : ℕ) (entered : ℕ → Option ℕ) (v e : ℕ) (vs : List ℕ) → tracked blocked epoch (entry_epochs entered vs) ≡ true → list_any (λ q. q == v) vs ≡ true → entered v ≡ Some e → blocked < e
entered_later blocked epoch entered v e vs h here is =
    ltb-true blocked e (among_epochs (λ d. nat_lt blocked d) entered v e vs (and_parts (nat_lt blocked epoch) (list_all (λ d. nat_lt blocked d) (entry_epochs entered vs)) h).1 here is)

pub epoch_later : (blocked epoch : ℕ) (es : List ℕ) → tracked blocked epoch es ≡ true → blocked < epoch
epoch_later blocked epoch es h = ltb-true blocked epoch (and_parts (nat_lt blocked epoch) (list_all (λ d. nat_lt blocked d) es) h).0

-- and where the count of an epoch is 0 none entered at it
pub none_at : (entered : ℕ → Option ℕ) (epoch v : ℕ) (vs : List ℕ) → entered_at entered epoch vs ≡ 0 → list_any (λ q. q == v) vs ≡ true → entered v ≡ Some epoch → ⊥
none_at entered epoch v [] h here is = cc
none_at entered epoch v (x ∷ vs) h here is = by_test (x == v)
    (λ y. let at : entered x ≡ Some epoch = ap entered (eqb-true x v y) ∙ is in let n = eq-eqb epoch epoch refl in let no : 1 + entered_at entered epoch vs ≡ 0 = rw (at, n) at h in omega (arith, no))
    (λ n. none_at entered epoch v vs (later (entered x) h) (rw n at here) is)
  where
    later : (o : Option ℕ) → entered_at entered epoch (x ∷ vs) ≡ 0 → entered_at entered epoch vs ≡ 0
    later o h = omega (arith, h)
