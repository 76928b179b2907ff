-- Where nothing was imported yet; and where all was that was made before a token.
use Rattle.std.proofs.Common.{◌≡◌, refl, sym, ◌∙◌, ap, ℕ, ◌<◌, ◌≤◌, List, ◌∷◌, ◌++◌, length, true, false, ◌==◌, ◌&&◌, ◌||◌, nat_lt, get_or, append_assoc, arith}
use Rattle.std.specs.List.{count_by, sum}
use Rattle.std.proofs.lemmas.Bool.{and_parts, and_left, eqb-true, ltb-true, ltb-false, lt-ltb}
use Rattle.std.proofs.lemmas.List.{get_or_past}
use Rattle.std.proofs.lemmas.List.Elements.{All-append, All-weaker}
use Rattle.flat_core.specs.World.{Made}
use Rattle.flat_core.proofs.Tests.{by_test}
use Rattle.mig_laws.specs.WellMade.{is_of, is_on, is_token, AreWellMade}
use Rattle.mig_laws.specs.Imported.{is_imported, counted_on, AreImported, ImportsBegin, TokenFits, HasAllBefore, TokenFitsThen}
use Rattle.mig_laws.proofs.Places.{by_places, count-append, count_same, sum_places, same_below}
use Rattle.mig_laws.proofs.Joined.{IsPlaced, placed, on_streams}

-- none is imported whose counter isn't below its stream's number
low_of : (s : ℕ) (counts : List ℕ) (x : Made) → is_imported s counts x ≡ true → x.header.counter < get_or counts x.header.stream 0
low_of s counts x e = ltb-true x.header.counter (get_or counts x.header.stream 0) (and_parts (is_of s x) _ e).1

pub imports-begin : ImportsBegin
imports-begin s counts epoch bundles zeros = record {
  within = λ k. omega (arith, zeros k);
  epochs = by_places (λ b. is_imported s counts b ≡ true → b.header.epoch ≤ epoch) bundles (λ front back x is e. absurd (omega (arith, low_of s counts x e, zeros x.header.stream)));
}

module _ (s : ℕ) (counts : List ℕ) (epoch : ℕ) (before after : List Made) (b : Made) (made : AreWellMade (before ++ b ∷ after)) (have : HasAllBefore s counts epoch before)
    (own : is_of s b ≡ true) (token : is_token b ≡ true) (later : epoch < b.header.epoch) where
  place : IsPlaced s before b
  place = placed s (before ++ b ∷ after) before after b made refl own

  -- a token has no page
  on : counted_on b ≡ 0
  on = by_test (b.header.kind == 3) (λ y. absurd (let k = eqb-true b.header.kind 3 y in let no : false ≡ true = sym (ap (λ (z : ℕ). z == 4 || z == 5) k) ∙ token in cc)) (λ y. rw y refl)

  few : (k : ℕ) → get_or counts k 0 ≤ count_by (is_on s k) before
  few k = by_test (nat_lt k (length counts))
      (λ y. let same = have.counter k (ltb-true k (length counts) y) in omega (arith, same))
      (λ y. let past = get_or_past counts k 0 (ltb-false k (length counts) y) in omega (arith, past))

  -- none from the token on
  none_later : (front back : List Made) (x : Made) → b ∷ after ≡ front ++ x ∷ back → is_imported s counts x ≡ true → ⊥
  none_later front back x is e =
      let p = placed s (before ++ b ∷ after) (before ++ front) back x made (ap (λ (z : List Made). before ++ z) is ∙ sym (append_assoc before front (x ∷ back))) (and_parts (is_of s x) _ e).0 in
      absurd (omega (arith, low_of s counts x e, few x.header.stream, p.counter, count-append (is_on s x.header.stream) before front))

  imported : AreImported s counts epoch (before ++ b ∷ after)
  imported = record {
    within = λ k. omega (arith, few k, count-append (is_on s k) before (b ∷ after));
    epochs = All-append (λ x. is_imported s counts x ≡ true → x.header.epoch ≤ epoch) before (b ∷ after)
        (All-weaker (λ x. is_of s x ≡ true → (x.header.stream < length counts) × (x.header.epoch ≤ epoch)) (λ x. is_imported s counts x ≡ true → x.header.epoch ≤ epoch)
        (λ x h e. (h (and_parts (is_of s x) _ e).0).1) before have.each)
        (by_places (λ x. is_imported s counts x ≡ true → x.header.epoch ≤ epoch) (b ∷ after) (λ front back x is e. absurd (none_later front back x is e)));
  }

  total_is : b.header.total ≡ sum counts
  total_is =
      place.total token
      ∙ sym (sum_places (λ x. x) counts
      ∙ (same_below (λ k. get_or counts k 0) (λ k. count_by (is_on s k) before) (length counts) have.counter
      ∙ (on_streams s (length counts) before
      ∙ count_same (λ x. is_of s x && nat_lt x.header.stream (length counts)) (is_of s) before
      (All-weaker (λ x. is_of s x ≡ true → (x.header.stream < length counts) × (x.header.epoch ≤ epoch)) (λ x. (is_of s x && nat_lt x.header.stream (length counts)) ≡ is_of s x) there before have.each))))
    where
      there : (x : Made) → (is_of s x ≡ true → (x.header.stream < length counts) × (x.header.epoch ≤ epoch)) → (is_of s x && nat_lt x.header.stream (length counts)) ≡ is_of s x
      there x h = by_test (is_of s x)
          (λ e. let m = (h e).0 in rw (e, lt-ltb x.header.stream (length counts) m) refl)
          (λ e. and_left (is_of s x) _ e ∙ sym e)

  pub fits_then : AreImported s counts epoch (before ++ b ∷ after) × TokenFits s counts epoch b
  fits_then = (
    imported,
    record {
      next = record {
        of_session = own;
        stream = rw on have.some;
        counter = place.counter ∙ (ap (λ (k : ℕ). count_by (is_on s k) before) (sym place.stream ∙ on) ∙ (sym (have.counter 0 have.some) ∙ ap (λ (k : ℕ). get_or counts k 0) (sym on)));
      };
      token = token;
      later = later;
      total = total_is;
    },
  )

pub token-fits-then : TokenFitsThen
token-fits-then s counts epoch before after b made have own token later = fits_then s counts epoch before after b made have own token later
