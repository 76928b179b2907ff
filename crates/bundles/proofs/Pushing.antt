-- One bundle more, whose payload stands behind all others.
use Rattle.std.proofs.Common.{◌≡◌, ◌∙◌, ◌+◌, ◌-◌, ◌≤◌, ℕ, List, [], ◌∷◌, ◌++◌, length, map, take, drop, refl, ap, sym, arith}
use Rattle.std.specs.List.{slice_range}
use Rattle.std.proofs.Math.Seq.{take-length, drop-append_seam}
use Rattle.std.proofs.lemmas.List.{length-append, take-append-le, drop-append-le, length-drop, map_push}
use Rattle.std.proofs.lemmas.List.Elements.{All-head, All-tail}
use Rattle.flat_core.specs.World.{Made}
use Rattle.flat_core.specs.Opening.{clear_header}
use Rattle.bundles.specs.Stores.{made_of, StandsWithin, StandWithin}
use Rattle.bundles.specs.declared.stores.Kept.{Kept}

-- a part of a list to which more is added
pub part-stays : (words more : List ℕ) (from to : ℕ) → from ≤ to → to ≤ length words → slice_range (words ++ more) from to ≡ slice_range words from to
part-stays words more from to order inside =
    ap (take (to - from)) (drop-append-le from words more (omega (arith, order, inside)))
    ∙ take-append-le (to - from) (drop from words) more (let n = length-drop from words in omega (arith, order, inside, n))

pub part-added : (words more : List ℕ) → slice_range (words ++ more) (length words) (length words + length more) ≡ more
part-added words more =
    let long : length words + length more - length words ≡ length more = omega arith in
    (λ i. take (long i) (drop-append_seam words more i)) ∙ take-length more

made-stay : (words more : List ℕ) (ks : List Kept) → StandWithin (length words) ks → map (made_of (words ++ more)) ks ≡ map (made_of words) ks
made-stay words more [] within = refl
made-stay words more (k ∷ ks) within =
    let here = All-head (StandsWithin (length words)) k ks within in
    let part : slice_range (words ++ more) k.from k.to ≡ slice_range words k.from k.to = part-stays words more k.from k.to here.order here.inside in
    let first : made_of (words ++ more) k ≡ made_of words k = ap (λ (ws : List ℕ). record { slot = k.slot; header = clear_header k.header; payload = ws }) part in
    let rest = made-stay words more ks (All-tail (StandsWithin (length words)) k ks within) in
    λ i. first i ∷ rest i

pub one-more : (words words' more : List ℕ) (ks ks' : List Kept) (k : Kept) (m : Made) → StandWithin (length words) ks → words' ≡ words ++ more → ks' ≡ ks ++ k ∷ []
    → k.from ≡ length words → k.to ≡ length words' → m ≡ record { slot = k.slot; header = clear_header k.header; payload = more }
    → map (made_of words') ks' ≡ map (made_of words) ks ++ m ∷ []
one-more words words' more ks ks' k m within words-are ks-are from to is =
    (λ i. map (made_of (words-are i)) (ks-are i))
    ∙ (map_push (made_of (words ++ more)) ks k ∙ (λ i. made-stay words more ks within i ++ last i ∷ []))
  where
    end : k.to ≡ length words + length more
    end = to ∙ ap length words-are ∙ length-append words more

    last : made_of (words ++ more) k ≡ m
    last =
        ap (λ (ws : List ℕ). record { slot = k.slot; header = clear_header k.header; payload = ws })
        ((λ i. slice_range (words ++ more) (from i) (end i)) ∙ part-added words more)
        ∙ sym is
