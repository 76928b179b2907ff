-- Merges that grow by an item, and merges whose lists have other numbers.
use Rattle.std.proofs.Common.{◌≡◌, ◌≢◌, ◌⊎◌, inl, inr, ⊎_elim, refl, sym, ◌∙◌, ap, subst, ℕ, ◌==◌, if◌then◌else◌, true, false, Bool, List, [], ◌∷◌, ◌++◌, Option, Some}
use Rattle.std.proofs.lemmas.Bool.{ne_eqb, eq-eqb}
use Rattle.std.proofs.lemmas.Bool.Decides.{eqb_tells}
use Rattle.step_core.specs.Items.{Table}
use Rattle.step_core.specs.declared.items.Taken.{Taken}
use Rattle.step_core.specs.declared.items.Taken.TheVariants.{Stepped, Swapped, Missed}
use Rattle.trace_table.specs.Merges.{Made, part, BeginsInSwap, taken_after}
use Rattle.trace_table.specs.Kept.{IsDue, Fits, Plays}

abbrev pub made_by : ℕ → Taken → Made
made_by p x = record { list = p; taken = x }

pub part-own : (p : ℕ) (ms : List Made) (x : Taken) → part p (ms ++ made_by p x ∷ []) ≡ part p ms ++ x ∷ []
part-own p [] x = rw (eq-eqb p p refl) refl
part-own p (m ∷ ms) x = by (m.list == p) (part-own p ms x)
  where
    by : (b : Bool) → part p (ms ++ made_by p x ∷ []) ≡ part p ms ++ x ∷ []
        → (if b then m.taken ∷ part p (ms ++ made_by p x ∷ []) else part p (ms ++ made_by p x ∷ [])) ≡ (if b then m.taken ∷ part p ms else part p ms) ++ x ∷ []
    by true e = ap (λ zs. m.taken ∷ zs) e
    by false e = e

pub part-other : (p q : ℕ) (ms : List Made) (x : Taken) → p ≢ q → part q (ms ++ made_by p x ∷ []) ≡ part q ms
part-other p q [] x ne = rw (ne_eqb p q ne) refl
part-other p q (m ∷ ms) x ne = by (m.list == q) (part-other p q ms x ne)
  where
    by : (b : Bool) → part q (ms ++ made_by p x ∷ []) ≡ part q ms
        → (if b then m.taken ∷ part q (ms ++ made_by p x ∷ []) else part q (ms ++ made_by p x ∷ [])) ≡ (if b then m.taken ∷ part q ms else part q ms)
    by true e = ap (λ zs. m.taken ∷ zs) e
    by false e = e

-- the list that has the item more has given back what it had out, and the others have out what they had
pub record IsNext (due due' : ℕ → Option ℕ) (r : ℕ) (x : Taken) : Type 0 where
  pub given : (k : ℕ) → due r ≡ Some k → BeginsInSwap k (x ∷ [])
  pub others : (q : ℕ) → q ≢ r → due' q ≡ due q

due-more : (due due' : ℕ → Option ℕ) (k p : ℕ) (behind : List Made) (r : ℕ) (x : Taken) → IsNext due due' r x → IsDue due behind p k → IsDue due' (behind ++ made_by r x ∷ []) p k
due-more due due' k p behind r x next u = record { list = u.list; other = u.other; swaps = by (eqb_tells u.list r) u.swaps }
  where
    by : (((u.list == r) ≡ true) × (u.list ≡ r)) ⊎ (((u.list == r) ≡ false) × (u.list ≢ r)) → BeginsInSwap k (part u.list behind) ⊎ ((part u.list behind ≡ []) × (due u.list ≡ Some k))
        → BeginsInSwap k (part u.list (behind ++ made_by r x ∷ [])) ⊎ ((part u.list (behind ++ made_by r x ∷ []) ≡ []) × (due' u.list ≡ Some k))
    by (inl t) (inl s) = inl (record {
      put = s.put;
      taken = s.taken;
      further = s.further ++ x ∷ [];
      is = ap (λ (z : ℕ). part z (behind ++ made_by r x ∷ [])) t.1 ∙ (part-own r behind x ∙ ap (λ (zs : List Taken). zs ++ x ∷ []) (ap (λ (z : ℕ). part z behind) (sym t.1) ∙ s.is));
    })
    by (inl t) (inr e) =
        let s = next.given k (ap due (sym t.1) ∙ e.1) in
        inl (record {
          put = s.put;
          taken = s.taken;
          further = s.further;
          is = ap (λ (z : ℕ). part z (behind ++ made_by r x ∷ [])) t.1 ∙ (part-own r behind x ∙ (ap (λ (zs : List Taken). zs ++ x ∷ []) (ap (λ (z : ℕ). part z behind) (sym t.1) ∙ e.0) ∙ s.is));
        })
    by (inr f) (inl s) = inl (record { put = s.put; taken = s.taken; further = s.further; is = part-other r u.list behind x (λ q. f.1 (sym q)) ∙ s.is })
    by (inr f) (inr e) = inr (part-other r u.list behind x (λ q. f.1 (sym q)) ∙ e.0, next.others u.list f.1 ∙ e.1)

fits-more : (due due' : ℕ → Option ℕ) (behind : List Made) (t : Table) (p : ℕ) (y : Taken) (r : ℕ) (x : Taken) → IsNext due due' r x → Fits due behind t p y → Fits due' (behind ++ made_by r x ∷ []) t p y
fits-more due due' behind t p (Stepped s a) r x next g = g
fits-more due due' behind t p (Swapped k put taken) r x next g = g
fits-more due due' behind t p (Missed k) r x next g = due-more due due' k p behind r x next g

pub plays-more : (due due' : ℕ → Option ℕ) (ms : List Made) (t u : Table) (r : ℕ) (x : Taken) → IsNext due due' r x → Plays due t ms u → Fits due' [] u r x → Plays due' t (ms ++ made_by r x ∷ []) (taken_after u x)
plays-more due due' [] t u r x next h g = (subst (λ (z : Table). Fits due' [] z r x) h g, ap (λ (z : Table). taken_after z x) h)
plays-more due due' (m ∷ ms) t u r x next h g = (fits-more due due' ms t m.list m.taken r x next h.0, plays-more due due' ms (taken_after t m.taken) u r x next h.1 g)

-- more may be out
fits-due : (due due' : ℕ → Option ℕ) (behind : List Made) (t : Table) (p : ℕ) (y : Taken) → ((q k : ℕ) → due q ≡ Some k → due' q ≡ Some k) → Fits due behind t p y → Fits due' behind t p y
fits-due due due' behind t p (Stepped s a) more g = g
fits-due due due' behind t p (Swapped k put taken) more g = g
fits-due due due' behind t p (Missed k) more g = record { list = g.list; other = g.other; swaps = ⊎_elim (λ s. inl s) (λ e. inr (e.0, more g.list k e.1)) g.swaps }

pub plays-due : (due due' : ℕ → Option ℕ) (ms : List Made) (t u : Table) → ((q k : ℕ) → due q ≡ Some k → due' q ≡ Some k) → Plays due t ms u → Plays due' t ms u
plays-due due due' [] t u more h = h
plays-due due due' (m ∷ ms) t u more h = (fits-due due due' ms t m.list m.taken more h.0, plays-due due due' ms (taken_after t m.taken) u more h.1)

-- two numbers change places
abbrev pub turned : ℕ → ℕ → ℕ → ℕ
turned a b p = if p == a then b else if p == b then a else p

pub turned-first : (a b : ℕ) → turned a b a ≡ b
turned-first a b = rw (eq-eqb a a refl) refl

pub turned-second : (a b : ℕ) → turned a b b ≡ a
turned-second a b = by (eqb_tells b a)
  where
    by : (((b == a) ≡ true) × (b ≡ a)) ⊎ (((b == a) ≡ false) × (b ≢ a)) → turned a b b ≡ a
    by (inl t) = rw t.0 t.1
    by (inr f) = rw (f.0, eq-eqb b b refl) refl

pub turned-else : (a b p : ℕ) → p ≢ a → p ≢ b → turned a b p ≡ p
turned-else a b p na nb = rw (ne_eqb p a na, ne_eqb p b nb) refl

pub turned-again : (a b p : ℕ) → turned a b (turned a b p) ≡ p
turned-again a b p = by (eqb_tells p a) (eqb_tells p b)
  where
    by : (((p == a) ≡ true) × (p ≡ a)) ⊎ (((p == a) ≡ false) × (p ≢ a)) → (((p == b) ≡ true) × (p ≡ b)) ⊎ (((p == b) ≡ false) × (p ≢ b)) → turned a b (turned a b p) ≡ p
    by (inl t) u = ap (turned a b) (ap (turned a b) t.1 ∙ turned-first a b) ∙ (turned-second a b ∙ sym t.1)
    by (inr f) (inl t) = ap (turned a b) (ap (turned a b) t.1 ∙ turned-second a b) ∙ (turned-first a b ∙ sym t.1)
    by (inr f) (inr g) = ap (turned a b) (turned-else a b p f.1 g.1) ∙ turned-else a b p f.1 g.1

-- a merge under other numbers
abbrev pub renumbered : (ℕ → ℕ) → List Made → List Made
renumbered f [] = []
renumbered f (m ∷ ms) = made_by (f m.list) m.taken ∷ renumbered f ms

module _ (f : ℕ → ℕ) (again : (p : ℕ) → f (f p) ≡ p) where
  flips : (a p : ℕ) → (f a == p) ≡ (a == f p)
  flips a p = by (eqb_tells (f a) p)
    where
      by : (((f a == p) ≡ true) × (f a ≡ p)) ⊎ (((f a == p) ≡ false) × (f a ≢ p)) → (f a == p) ≡ (a == f p)
      by (inl t) = t.0 ∙ sym (eq-eqb a (f p) (sym (again a) ∙ ap f t.1))
      by (inr n) = n.0 ∙ sym (ne_eqb a (f p) (λ e. n.1 (ap f e ∙ again p)))

  pub part-renumbered : (p : ℕ) (ms : List Made) → part p (renumbered f ms) ≡ part (f p) ms
  part-renumbered p [] = refl
  part-renumbered p (m ∷ ms) = ap (λ (b : Bool). if b then m.taken ∷ part p (renumbered f ms) else part p (renumbered f ms)) (flips m.list p) ∙ by (m.list == f p) (part-renumbered p ms)
    where
      by : (b : Bool) → part p (renumbered f ms) ≡ part (f p) ms → (if b then m.taken ∷ part p (renumbered f ms) else part p (renumbered f ms)) ≡ (if b then m.taken ∷ part (f p) ms else part (f p) ms)
      by true e = ap (λ (zs : List Taken). m.taken ∷ zs) e
      by false e = e

  back : (p : ℕ) (ms : List Made) → part (f p) (renumbered f ms) ≡ part p ms
  back p ms = part-renumbered (f p) ms ∙ ap (λ (z : ℕ). part z ms) (again p)

  fits-renumbered : (due : ℕ → Option ℕ) (behind : List Made) (t : Table) (p : ℕ) (y : Taken) → Fits due behind t p y → Fits (λ q. due (f q)) (renumbered f behind) t (f p) y
  fits-renumbered due behind t p (Stepped s a) g = g
  fits-renumbered due behind t p (Swapped k put taken) g = g
  fits-renumbered due behind t p (Missed k) g = record {
    list = f g.list;
    other = λ e. g.other (sym (again g.list) ∙ (ap f e ∙ again p));
    swaps = ⊎_elim (λ s. inl (record { put = s.put; taken = s.taken; further = s.further; is = back g.list behind ∙ s.is })) (λ e. inr (back g.list behind ∙ e.0, ap due (again g.list) ∙ e.1)) g.swaps;
  }

  pub plays-renumbered : (due : ℕ → Option ℕ) (ms : List Made) (t u : Table) → Plays due t ms u → Plays (λ q. due (f q)) t (renumbered f ms) u
  plays-renumbered due [] t u h = h
  plays-renumbered due (m ∷ ms) t u h = (fits-renumbered due ms t m.list m.taken h.0, plays-renumbered due ms (taken_after t m.taken) u h.1)
