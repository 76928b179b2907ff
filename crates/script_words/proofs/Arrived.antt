-- What came in, slot by slot.
use Rattle.std.proofs.Common.{◌≡◌, ◌⊎◌, inl, inr, refl, sym, ◌∙◌, subst, ap, ℕ, zero, suc, List, [], ◌∷◌, map, slice_index, Option, None, IfSome, lit<, ◌==◌}
use Rattle.std.specs.List.{All}
use Rattle.std.proofs.lemmas.Bool.{eqb-true}
use Rattle.std.proofs.lemmas.List.Elements.{All-head, All-tail}
use Rattle.td_words.specs.Seen.{BundleSeen}
use Rattle.flat_core.specs.Opening.{Incoming}
use Rattle.flat_core.proofs.Tests.{by_test}
use Rattle.flat_words.specs.Words.{IsWord, BringsWords}
use Rattle.incoming.specs.Arrivals.{SlotIncoming, incoming_in, at_slot}
use Rattle.script_words.specs.Given.{ComeInAsWords}

-- no bundle has the slot, or what is so of each bundle's slot is so of it
in_slot : (P : ℕ → Type 0) (forward backward : List ℕ) (sealed : List BundleSeen) → All (λ b. P b.slot) sealed → (slot : ℕ) → (at_slot (map (incoming_in forward backward) sealed) slot ≡ None) ⊎ P slot
in_slot P forward backward [] h slot = inl refl
in_slot P forward backward (b ∷ sealed) h slot = by_test (b.slot == slot)
    (λ y. inr (subst P (eqb-true b.slot slot y) (All-head (λ x. P x.slot) b sealed h)))
    (λ y. rw y (in_slot P forward backward sealed (All-tail (λ x. P x.slot) b sealed h) slot))

word_in : (xs : List ℕ) (k : ℕ) → All IsWord xs → IsWord (slice_index xs k)
word_in [] k h = lit< tt
word_in (x ∷ xs) zero h = All-head IsWord x xs h
word_in (x ∷ xs) (suc k) h = word_in xs k (All-tail IsWord x xs h)

pub arrive_as_words : (secrets : List ℕ) (opened : List SlotIncoming) (sealed : List BundleSeen) → All IsWord secrets → All (λ b. IfSome (at_slot opened b.slot) BringsWords) sealed → ComeInAsWords secrets opened sealed
arrive_as_words secrets opened sealed words come forward backward is = record {
  words = λ k few. word_in secrets k words;
  come_in = λ slot. by slot (in_slot (λ n. IfSome (at_slot opened n) BringsWords) forward backward sealed come slot);
}
  where
    by : (slot : ℕ) → (at_slot (map (incoming_in forward backward) sealed) slot ≡ None) ⊎ IfSome (at_slot opened slot) BringsWords → IfSome (at_slot opened slot) BringsWords
    by slot (inl none) =
        let nothing : at_slot opened slot ≡ None = ap (λ (x : List SlotIncoming). at_slot x slot) is ∙ none in
        subst (λ (x : Option Incoming). IfSome x BringsWords) (sym nothing) tt
    by slot (inr h) = h
