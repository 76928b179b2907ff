-- A merge of one list is that list: nobody else has a swap under way, so none misses.
use Rattle.std.proofs.Common.{◌≡◌, ◌≢◌, ◌⊎◌, inl, inr, refl, sym, ◌∙◌, ap, subst, ℕ, zero, suc, ◌==◌, if◌then◌else◌, true, false, Bool, List, [], ◌∷◌, slice_index_or}
use Rattle.std.proofs.lemmas.Bool.Decides.{eqb_tells}
use Rattle.td_words.specs.declared.machines.Machine.{Machine}
use Rattle.step_core.specs.Items.{Table, PlaysTo}
use Rattle.step_core.specs.declared.items.Taken.{Taken}
use Rattle.step_core.specs.declared.items.Taken.TheVariants.{Stepped, Swapped, Missed}
use Rattle.trace_table.specs.Merges.{Made, part, TakenFits, taken_after, MergePlays, no_table, MergesTo}

abbrev is-empty : List Taken → Type 0
is-empty [] = Unit {0}
is-empty (x ∷ xs) = ⊥

no-first : (x : Taken) (xs : List Taken) → x ∷ xs ≡ [] → ⊥
no-first x xs e = subst is-empty (sym e) tt

-- whether a list has an item more in front
part-of : (m : Made) (ms : List Made) (p : ℕ) (b : Bool) → (m.list == p) ≡ b → part p (m ∷ ms) ≡ (if b then m.taken ∷ part p ms else part p ms)
part-of m ms p b e = ap (λ (c : Bool). if c then m.taken ∷ part p ms else part p ms) e

plays-one : (ms : List Made) (t u : Table) → ((p : ℕ) → p ≢ 0 → part p ms ≡ []) → MergePlays t ms u → PlaysTo t (part 0 ms) u
plays-one [] t u none h = h
plays-one (m ∷ ms) t u none h = by (eqb_tells m.list 0) (λ v g. plays-one ms v u behind g)
  where
    behind : (p : ℕ) → p ≢ 0 → part p ms ≡ []
    behind p ne = of (eqb_tells m.list p)
      where
        of : (((m.list == p) ≡ true) × (m.list ≡ p)) ⊎ (((m.list == p) ≡ false) × (m.list ≢ p)) → part p ms ≡ []
        of (inl t) = absurd (no-first m.taken (part p ms) (sym (part-of m ms p true t.0) ∙ none p ne))
        of (inr f) = sym (part-of m ms p false f.0) ∙ none p ne

    begins : (x : Taken) → m.list ≡ 0 → TakenFits ms t m.list x → PlaysTo (taken_after t x) (part 0 ms) u → PlaysTo t (x ∷ part 0 ms) u
    begins (Stepped s a) own f g = (f, g)
    begins (Swapped k put taken) own f g = (f, g)
    begins (Missed k) own f g = absurd (no-first (Swapped k f.swaps.put f.swaps.taken) f.swaps.further (sym f.swaps.is ∙ behind f.list (λ e. f.other (e ∙ sym own))))

    by : (((m.list == 0) ≡ true) × (m.list ≡ 0)) ⊎ (((m.list == 0) ≡ false) × (m.list ≢ 0)) → ((v : Table) → MergePlays v ms u → PlaysTo v (part 0 ms) u) → PlaysTo t (part 0 (m ∷ ms)) u
    by (inl e) further = subst (λ (xs : List Taken). PlaysTo t xs u) (sym (part-of m ms 0 true e.0)) (begins m.taken e.1 h.0 (further (taken_after t m.taken) h.1))
    by (inr f) further = absurd (no-first m.taken (part m.list ms) (sym (part-of m ms m.list true (itself m.list)) ∙ none m.list f.1))
      where
        itself : (p : ℕ) → (p == p) ≡ true
        itself p = of (eqb_tells p p)
          where
            of : (((p == p) ≡ true) × (p ≡ p)) ⊎ (((p == p) ≡ false) × (p ≢ p)) → (p == p) ≡ true
            of (inl t) = t.0
            of (inr f) = absurd (f.1 refl)

-- the table where a merge of one list leads
pub alone-at : (m : Machine) (own : List Taken) (words : List ℕ) (h : MergesTo m (own ∷ []) words) → PlaysTo no_table own h.table
alone-at m own words h = subst (λ (xs : List Taken). PlaysTo no_table xs h.table) (h.merge 0) (plays-one h.made no_table h.table (λ p ne. h.merge p ∙ none p ne) h.plays)
  where
    none : (p : ℕ) → p ≢ 0 → slice_index_or (own ∷ []) p [] ≡ []
    none zero ne = absurd (ne refl)
    none (suc p) ne = refl

pub alone : (m : Machine) (own : List Taken) (words : List ℕ) → MergesTo m (own ∷ []) words → (t : Table) × PlaysTo no_table own t
alone m own words h = (h.table, alone-at m own words h)
