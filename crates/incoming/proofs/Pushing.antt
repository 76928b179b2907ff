-- One bundle more, whose slot is above all others and whose payload stands behind all others.
use Rattle.std.proofs.Common.{◌≡◌, ◌∙◌, ◌+◌, ◌<◌, ℕ, zero, suc, List, [], ◌∷◌, ◌++◌, length, map, get_or, All, refl, ap, sym, subst, arith}
use Rattle.std.specs.List.{slice_range}
use Rattle.std.proofs.lemmas.List.{length-append, map_push}
use Rattle.std.proofs.lemmas.List.Elements.{All-head, All-tail, All-push, All-weaker}
use Rattle.std.proofs.lemmas.List.Quantifiers.{all_pairs_push}
use Rattle.bundles.proofs.Pushing.{part-stays, part-added}
use Rattle.incoming.specs.Opened.{clear_of}
use Rattle.incoming.specs.declared.arrivals.Kept.{Kept}
use Rattle.incoming.specs.Arrivals.{SlotIncoming, arrived, StandsWithin, StandWithin, SlotsRise}

abbrev pub slot_seen : SlotIncoming → ℕ
slot_seen b = b.slot

pub arrived-stay : (words more : List ℕ) (ks : List Kept) → StandWithin (length words) ks → map (arrived (words ++ more)) ks ≡ map (arrived words) ks
arrived-stay words more [] within = refl
arrived-stay words more (k ∷ ks) within =
    let here = All-head (StandsWithin (length words)) k ks within in
    let part : slice_range (words ++ more) k.from k.to ≡ slice_range words k.from k.to = part-stays words more k.from k.to here.order here.inside in
    let first : arrived (words ++ more) k ≡ arrived words k =
    ap (λ (ws : List ℕ). record { slot = k.slot; bundle = record { header = clear_of k.header; opens = k.opens; payload = ws } }) part in
    let rest = arrived-stay words more ks (All-tail (StandsWithin (length words)) k ks within) in
    λ i. first i ∷ rest i

stand-longer : (words more : List ℕ) (ks : List Kept) → StandWithin (length words) ks → StandWithin (length (words ++ more)) ks
stand-longer words more ks within =
    All-weaker (StandsWithin (length words)) (StandsWithin (length (words ++ more)))
    (λ k h. record { order = h.order; inside = omega (arith, h.inside, length-append words more) }) ks within

module _ (words words' more : List ℕ) (ks : List Kept) (within : StandWithin (length words) ks) (words-are : words' ≡ words ++ more) where
  pub still-arrived : map (arrived words') ks ≡ map (arrived words) ks
  still-arrived = ap (λ (ws : List ℕ). map (arrived ws) ks) words-are ∙ arrived-stay words more ks within

  pub still-stand : StandWithin (length words') ks
  still-stand = subst (λ (ws : List ℕ). StandWithin (length ws) ks) (sym words-are) (stand-longer words more ks within)

  module _ (k : Kept) (from : k.from ≡ length words) (to : k.to ≡ length words') where
    end : k.to ≡ length words + length more
    end = to ∙ ap length words-are ∙ length-append words more

    pub stand-more : StandWithin (length words') (ks ++ k ∷ [])
    stand-more =
        All-push (StandsWithin (length words')) ks k still-stand
        (record { order = omega (arith, from, end); inside = omega (arith, to) })

    pub one-more : (b : SlotIncoming) → b ≡ record { slot = k.slot; bundle = record { header = clear_of k.header; opens = k.opens; payload = more } }
        → map (arrived words') (ks ++ k ∷ []) ≡ map (arrived words) ks ++ b ∷ []
    one-more b is = map_push (arrived words') ks k ∙ (λ i. still-arrived i ++ last i ∷ [])
      where
        last : arrived words' k ≡ b
        last =
            ap (λ (ws : List ℕ). record { slot = k.slot; bundle = record { header = clear_of k.header; opens = k.opens; payload = ws } })
            ((λ i. slice_range (words-are i) (from i) (end i)) ∙ part-added words more)
            ∙ sym is

-- slots rise still
all-kept : (words : List ℕ) (slot : ℕ) (ks : List Kept) → All (λ n. n < slot) (map slot_seen (map (arrived words) ks)) → (i : ℕ) (d : Kept) → i < length ks → (get_or ks i d).slot < slot
all-kept words slot [] below i d h = absurd (omega arith)
all-kept words slot (k ∷ ks) below zero d h = All-head (λ n. n < slot) k.slot (map slot_seen (map (arrived words) ks)) below
all-kept words slot (k ∷ ks) below (suc i) d h = all-kept words slot ks (All-tail (λ n. n < slot) k.slot (map slot_seen (map (arrived words) ks)) below) i d (omega arith)

pub rise-more : (words : List ℕ) (slot : ℕ) (ks : List Kept) (k : Kept) → SlotsRise ks → k.slot ≡ slot → All (λ n. n < slot) (map slot_seen (map (arrived words) ks)) → SlotsRise (ks ++ k ∷ [])
rise-more words slot ks k rise is below = all_pairs_push (λ a b. a.slot < b.slot) ks k rise (λ i d h. omega (arith, all-kept words slot ks below i d h, is))

pub slots-push : (bs : List SlotIncoming) (b : SlotIncoming) → map slot_seen (bs ++ b ∷ []) ≡ map slot_seen bs ++ b.slot ∷ []
slots-push bs b = map_push slot_seen bs b
