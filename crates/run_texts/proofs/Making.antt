-- The bundles of a script's processors are those that its run makes, in another order, and fit a container.
use Rattle.std.proofs.Common.{◌≡◌, ◌≢◌, ◌≤◌, sym, ◌∙◌, ap, subst, ℕ, zero, suc, ◌+◌, ◌<◌, List, [], ◌∷◌, ◌++◌, length, Option, None, Some, Result, Ok, Err, IfOk, IfSome, All, AllPairs, get_or, slice_get, take, drop, refl, arith, append_assoc, add-one}
use Rattle.std.proofs.Math.Seq.{drop-cons}
use Rattle.std.proofs.lemmas.List.{take_more}
use Rattle.std.proofs.lemmas.Option.{slice_get_within, get_or_from_slice_get}
use Rattle.std.specs.Global.{Vec}
use Rattle.std.specs.List.Sorted.{IsPermutation}
use Rattle.std.proofs.lemmas.List.Sorted.{IsPermutation-sym}
use Rattle.td_words.specs.Slots.{output_slots}
use Rattle.flat_core.specs.World.{Made}
use Rattle.flat_core.specs.Opening.{Opening}
use Rattle.flat_core.specs.Run.{run, bundles_in, to_the_end}
use Rattle.flat_bundles.specs.Bundles.{BundlesAreOfLines}
use Rattle.bundle_texts.specs.Ordered.{FitContainer, container_text}
use Rattle.bundle_texts.proofs.Fits.{fit_slots, fit_too, same_text}
use Rattle.leaf_engine.specs.OwnLists.{WordLp}
use Rattle.merge_laws.specs.Laws.{AreBundlesOf}
use Rattle.merge_laws.proofs.Gathered.{bundles_from, all-gathered}
use Rattle.leaf_dispatch.specs.Ended.{ended_in}
use Rattle.leaf_dispatch.specs.States.{seen_of}
use Rattle.leaf_dispatch.specs.declared.states.LpState.{LpState}
use Rattle.run_texts.specs.Replaying.{seen_at}
use Rattle.run_texts.specs.Sealing.{bundles_seen, bundles_text}

pub same-bundles : (n p : ℕ) (f : ℕ → List Made) (lps : List LpState) → length lps ≡ n → ((q : ℕ) → q < n → f (p + q) ≡ ended_in (seen_at lps q)) → bundles_from n p f ≡ bundles_seen lps
same-bundles zero p f [] e h = refl
same-bundles zero p f (s ∷ ss) e h = absurd (omega (arith, e))
same-bundles (suc n) p f [] e h = absurd (omega (arith, e))
same-bundles (suc n) p f (s ∷ ss) e h =
    let here : f p ≡ ended_in (seen_of s) = ap f (omega arith) ∙ h 0 (omega arith) in
    ap (λ (ms : List Made). ms ++ bundles_from n (p + 1) f) here
    ∙ ap (λ (ms : List Made). ended_in (seen_of s) ++ ms) (same-bundles n (p + 1) f ss (omega (arith, e)) (λ q i. ap f (omega arith) ∙ h (suc q) (omega arith)))

-- a run's bundles fit a container, where its lines name slots of at most 4,095 and no two name one
pub fit-run : BundlesAreOfLines → (o : Opening) (schedule : List ℕ) → All (λ slot. slot ≤ 4095) (output_slots o.calls) → AllPairs (λ a b. a ≢ b) (output_slots o.calls) → FitContainer (bundles_in (run o schedule))
fit-run law o schedule few apart =
    let h = law o None (schedule ++ to_the_end 0 o.calls) in
    fit_slots (output_slots o.calls) (bundles_in (run o schedule)) few apart h.each h.apart h.pages

-- where processors are where a run ends
module _ (o : Opening) (schedule : List ℕ) (now : ℕ → WordLp) (lps : List LpState) (count : length lps ≡ length o.calls) (same : (q : ℕ) → q < length o.calls → (now q).beside.bundles ≡ ended_in (seen_at lps q)) (are : AreBundlesOf (length o.calls) now (bundles_in (run o schedule))) (fit : FitContainer (bundles_in (run o schedule))) where
  pub moved-there : IsPermutation (bundles_in (run o schedule)) (bundles_seen lps)
  moved-there =
      IsPermutation-sym (bundles_seen lps) (bundles_in (run o schedule))
      (subst (λ (z : List Made). IsPermutation z (bundles_in (run o schedule))) (same-bundles (length o.calls) 0 (λ q. (now q).beside.bundles) lps count (λ q i. ap (λ (k : ℕ). (now k).beside.bundles) (omega arith) ∙ same q i))
      (all-gathered (length o.calls) now (bundles_in (run o schedule)) are))

  pub fits-there : FitContainer (bundles_seen lps)
  fits-there = fit_too (bundles_in (run o schedule)) (bundles_seen lps) moved-there fit

  pub seals-there : (forward backward : List ℕ) → container_text forward backward (bundles_seen lps) ≡ bundles_text forward backward o schedule
  unfolding bundles_text
  seals-there forward backward = same_text forward backward (bundles_in (run o schedule)) (bundles_seen lps) fit moved-there

-- the bundles of one processor more
pub bundles-next : (lps : List LpState) (i : ℕ) (d : LpState) (all whole own : List Made) → i < length lps → own ≡ ended_in (seen_of (get_or lps i d)) → all ++ bundles_seen (drop i lps) ≡ whole → (all ++ own) ++ bundles_seen (drop (i + 1) lps) ≡ whole
bundles-next lps i d all whole own inside is so_far =
    let here : drop i lps ≡ get_or lps i d ∷ drop (i + 1) lps = rw add-one (drop-cons lps i d inside) in
    append_assoc all own (bundles_seen (drop (i + 1) lps))
    ∙ (ap (λ (x : List Made). all ++ (x ++ bundles_seen (drop (i + 1) lps))) is ∙ (ap (λ (x : List LpState). all ++ bundles_seen x) (sym here) ∙ so_far))

-- one bundle more of a processor
pub one-more : (ms : List Made) (i : ℕ) (m : Made) (all front : List Made) → slice_get ms i ≡ Some m → all ≡ front ++ take i ms → all ++ m ∷ [] ≡ front ++ take (i + 1) ms
one-more ms i m all front at so_far =
    ap (λ (zs : List Made). zs ++ m ∷ []) so_far
    ∙ (append_assoc front (take i ms) (m ∷ [])
    ∙ ap (λ (zs : List Made). front ++ zs) (ap (λ (x : Made). take i ms ++ x ∷ []) (sym (get_or_from_slice_get ms i m m at)) ∙ sym (take_more ms i m (slice_get_within ms i m at))))

-- bytes that are a text are so where a file is named
pub named-text : {E : Type 0} (r : Result (Vec ℕ) E) (name : Option (List ℕ)) (text told : List ℕ) → text ≡ told → IfOk r (λ v. v.items ≡ text) → IfOk r (λ v. IfSome name (λ n. v.items ≡ told))
named-text (Ok v) None text told e h = tt
named-text (Ok v) (Some n) text told e h = h ∙ e
named-text (Err x) name text told e h = tt
