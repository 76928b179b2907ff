-- What a search by slot finds.
use Rattle.std.proofs.Common.{◌≡◌, ◌∙◌, ◌<◌, ◌≤◌, ◌≢◌, ◌⊎◌, inl, inr, ℕ, zero, suc, List, [], ◌∷◌, length, map, get_or, Some, None, Result, Ok, Err, IfOk, IfErr, false, refl, ap, sym, arith}
use Rattle.std.specs.List.Sorted.{IsSearchInRange, IsBinarySearchResult, IsNonDecreasingBy}
use Rattle.std.specs.Ordering.{nat_cmp, ordering_index}
use Rattle.std.proofs.lemmas.Bool.{eq-eqb, ne_eqb, cases_lt}
use Rattle.std.proofs.lemmas.Cmp.{ranked}
use Rattle.std.proofs.lemmas.List.Sorted.{IsNonDecreasingBy-from_default}
use Rattle.std.proofs.lemmas.Bool.Decides.{nat_tests}
use Rattle.td_words.specs.declared.names.HeaderField.TheVariants as field
use Rattle.incoming.specs.declared.arrivals.Kept.{Kept}
use Rattle.incoming.specs.Arrivals.{SlotIncoming, at_slot, arrived, SlotsRise}

first-found : (b : SlotIncoming) (bs : List SlotIncoming) (slot : ℕ) → b.slot ≡ slot → at_slot (b ∷ bs) slot ≡ Some b.bundle
first-found b bs slot e = rw (eq-eqb b.slot slot e) refl

first-passed : (b : SlotIncoming) (bs : List SlotIncoming) (slot : ℕ) → b.slot ≢ slot → at_slot (b ∷ bs) slot ≡ at_slot bs slot
first-passed b bs slot n = rw (ne_eqb b.slot slot n) refl

rise-tail : (k : Kept) (ks : List Kept) → SlotsRise (k ∷ ks) → SlotsRise ks
rise-tail k ks rise i j d less h = rise (suc i) (suc j) d (omega arith) (omega arith)

pub found : (words : List ℕ) (ks : List Kept) (slot i : ℕ) (d : Kept) → SlotsRise ks → i < length ks → (get_or ks i d).slot ≡ slot
    → at_slot (map (arrived words) ks) slot ≡ Some (arrived words (get_or ks i d)).bundle
found words [] slot i d rise h e = absurd (omega arith)
found words (k ∷ ks) slot zero d rise h e = first-found (arrived words k) (map (arrived words) ks) slot e
found words (k ∷ ks) slot (suc i) d rise h e =
    first-passed (arrived words k) (map (arrived words) ks) slot (λ same. omega (arith, rise 0 (suc i) d (omega arith) h, e, same))
    ∙ found words ks slot i d (rise-tail k ks rise) (omega arith) e

pub none : (words : List ℕ) (ks : List Kept) (slot : ℕ) → ((i : ℕ) (d : Kept) → i < length ks → (get_or ks i d).slot ≢ slot) → at_slot (map (arrived words) ks) slot ≡ None
none words [] slot other = refl
none words (k ∷ ks) slot other =
    first-passed (arrived words k) (map (arrived words) ks) slot (other 0 k (omega arith))
    ∙ none words ks slot (λ i d h. other (suc i) d (omega arith))

-- one that stands for none
abbrev pub no_bundle : Kept
no_bundle = record { slot = 0; header = Err field.Short; opens = false; from = 0; to = 0 }

module _ (ks : List Kept) (rise : SlotsRise ks) (slot : ℕ) where
  comparisons-rise : IsNonDecreasingBy (λ k. ordering_index (nat_cmp k.slot slot)) ks
  comparisons-rise = IsNonDecreasingBy-from_default (λ k. ordering_index (nat_cmp k.slot slot)) ks no_bundle (λ i j le h.
      let slots-rise : (get_or ks i no_bundle).slot ≤ (get_or ks j no_bundle).slot = grind (arith, rise i j no_bundle, λ (same : i ≡ j). ap (λ (n : ℕ). (get_or ks n no_bundle).slot) same) in
      grind (arith, nat_tests))

  -- a search by slot ends at it, or none has it
  pub searched : (r : Result ℕ ℕ) → IsSearchInRange r (length ks) → IsBinarySearchResult (λ k. nat_cmp k.slot slot) ks r
      → record { at : IfOk r (λ i. (i < length ks) × ((d : Kept) → (get_or ks i d).slot ≡ slot)); other : IfErr r (λ i. (j : ℕ) (d : Kept) → j < length ks → (get_or ks j d).slot ≢ slot) }
  searched (Ok i) in-range equal = record { at = (in-range, λ d. ranked _ slot _ (sym (equal d))); other = tt }
  searched (Err i) in-range parted = record {
    at = tt;
    other = λ j d h same. by-place j d h same (cases_lt j i);
  }
    where
      by-place : (j : ℕ) (d : Kept) → j < length ks → (get_or ks j d).slot ≡ slot → (j < i) ⊎ (i ≤ j) → ⊥
      by-place j d h same (inl before) =
          let below : (get_or ks j d).slot < slot = ranked _ slot _ (sym ((parted comparisons-rise).0 j d (omega (arith, in-range)) before)) in omega (arith, below, same)
      by-place j d h same (inr after) =
          let above : slot < (get_or ks j d).slot = ranked _ slot _ (sym ((parted comparisons-rise).1 j d after h)) in omega (arith, above, same)

  -- where none has it, those before the place that the search gives are below it, and those from there on above
  pub parted : (i : ℕ) → i ≤ length ks → IsBinarySearchResult (λ k. nat_cmp k.slot slot) ks (Err i)
      → record { below : (j : ℕ) (d : Kept) → j < i → (get_or ks j d).slot < slot; above : (j : ℕ) (d : Kept) → i ≤ j → j < length ks → slot < (get_or ks j d).slot }
  parted i in-range apart = record {
    below = λ j d before. ranked _ slot _ (sym ((apart comparisons-rise).0 j d (omega (arith, in-range)) before));
    above = λ j d after h. ranked _ slot _ (sym ((apart comparisons-rise).1 j d after h));
  }
