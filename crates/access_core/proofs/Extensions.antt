-- The extension of an RTMR in code: what it was told, and the words that it stores.
use Rattle.std.proofs.Common.{◌≡◌, ℕ, zero, suc, ◌+◌, ◌*◌, ◌<◌, List, [], ◌∷◌, ◌++◌, length, take, drop, slice_index, Option, Some, Result, Ok, Err, refl, ap, sym, ◌∙◌, subst, arith}
use Rattle.std.proofs.Math.Seq.{take-append_seam, drop-append_seam}
use Rattle.td_words.specs.declared.machines.Machine.{Machine}
use Rattle.td_words.specs.declared.replies.Value.TheVariants as value
use Rattle.td_words.specs.declared.replies.Reply.TheVariants.{Done}
use Rattle.td_words.specs.Place.{WordPlace, Word, address}
use Rattle.td_words.specs.Address.{word_at}
use Rattle.flat_core.specs.Digests.{digest_bytes, six_words}
use Rattle.mrtd_measure.specs.declared.measures.Measure.{Measure}
use Rattle.step_core.specs.declared.steps.WordStep.TheVariants as step
use Rattle.leaf_engine.specs.declared.needs.Write.TheVariants as write
use Rattle.leaf_engine.specs.declared.plans.Stop.{Stop}
use Rattle.leaf_engine.specs.declared.plans.Stop.TheVariants as stop
use Rattle.leaf_engine.specs.declared.plans.Verdict.{Verdict}
use Rattle.leaf_engine.specs.Trees.{Tree}
use Rattle.leaf_engine.specs.Decides.{Ending, Decides, ending, HandsAt}
use Rattle.leaf_parts.specs.Words.{page_told}
use Rattle.access_core.specs.OperationTrees.{with_position, put_next}
use Rattle.access_core.specs.RtmrTrees.{with_words, rtmr_at, extension, put_six, rtmr_changes, extended, extend_held, rtmr_tree}

-- words are loaded at the same places
words-same : (N : ℕ) (at there : ℕ → WordPlace) → ((k : ℕ) → at k ≡ there k) → (left n : ℕ) (f : List ℕ → Tree) (xs : List ℕ) (r : Result Ending Stop) → Decides N (with_words at n left f) xs r → Decides N (with_words there n left f) xs r
words-same N at there same zero n f xs r d = d
words-same N at there same (suc left) n f [] r d = subst (λ (q : WordPlace). r ≡ Err (stop.Load (address N q))) (same n) d
words-same N at there same (suc left) n f (x ∷ xs) r d = words-same N at there same left (n + 1) (λ ys. f (x ∷ ys)) xs r d

-- an RTMR's words stand one behind another
pub rtmr-words : (N d i from : ℕ) → from ≡ 16 + 6 * i → (f : List ℕ → Tree) (xs : List ℕ) (r : Result Ending Stop) → Decides N (with_words (λ k. Word d (from + k)) 0 6 f) xs r → Decides N (with_words (rtmr_at d i) 0 6 f) xs r
rtmr-words N d i from is f xs r h = words-same N (λ k. Word d (from + k)) (rtmr_at d i) (λ k. (let at : from + k ≡ 16 + (6 * i + k) = omega (arith, is) in ap (Word d) at)) 6 0 f xs r h

-- what was told begins with twelve words
module _ (xs old zs given ys : List ℕ) (first : xs ≡ old ++ zs) (second : zs ≡ given ++ ys) (six : length old ≡ 6) (more : length given ≡ 6) where
  old-taken : take 6 xs ≡ old
  old-taken = ap (take 6) first ∙ subst (λ (n : ℕ). take n (old ++ zs) ≡ old) six (take-append_seam old zs)

  rest-dropped : drop 6 xs ≡ zs
  rest-dropped = ap (drop 6) first ∙ subst (λ (n : ℕ). drop n (old ++ zs) ≡ zs) six (drop-append_seam old zs)

  given-taken : take 6 (drop 6 xs) ≡ given
  given-taken = ap (take 6) (rest-dropped ∙ second) ∙ subst (λ (n : ℕ). take n (given ++ ys) ≡ given) more (take-append_seam given ys)

  pub changes-told : (v i d at : ℕ) → rtmr_changes v i d at xs ≡ put_six (rtmr_at d i) (extension old given) (put_next v at ∷ [])
  changes-told v i d at = ap (λ (a : List ℕ). put_six (rtmr_at d i) (extension a (take 6 (drop 6 xs))) (put_next v at ∷ [])) old-taken ∙ ap (λ (b : List ℕ). put_six (rtmr_at d i) (extension old b) (put_next v at ∷ [])) given-taken

  -- the end
  pub extended-told : (N v line d i at : ℕ) (rest bytes : List ℕ) → ys ≡ at ∷ rest → bytes ≡ digest_bytes (six_words (extension old given))
      → Decides N (with_position v (λ n. extended v line d i n (extension old given))) ys (Ok (record { reply = Done (value.Digest bytes); changes = rtmr_changes v i d at xs }))
  extended-told N v line d i at rest bytes position hashed =
      subst (λ (zs : List ℕ). Decides N (with_position v (λ n. extended v line d i n (extension old given))) zs (Ok (record { reply = Done (value.Digest bytes); changes = rtmr_changes v i d at xs }))) (sym position)
      (ap (λ (bs : List ℕ). Done (value.Digest bs)) (sym hashed), changes-told v i d at)

-- behind R
pub behind-lock : (m : Machine) (t v line i word l d : ℕ) (xs mid ys : List ℕ) (r : Result Verdict Stop) → xs ≡ word ∷ mid → mid ≡ l ∷ ys → d ≡ page_told m.pages word
    → Decides m.pages (extend_held v line i d) ys (ending (λ a. rtmr_changes v i a.page a.count ys) r) → Decides m.pages (rtmr_tree m t v line i) xs (ending (λ a. rtmr_changes v i a.page a.count (drop 2 xs)) r)
behind-lock m t v line i word l d xs mid ys r first second page h =
    subst (λ (zs : List ℕ). Decides m.pages (rtmr_tree m t v line i) zs (ending (λ a. rtmr_changes v i a.page a.count (drop 2 zs)) r)) (sym (first ∙ ap (λ (zs : List ℕ). word ∷ zs) second))
    (subst (λ (p : ℕ). Decides m.pages (extend_held v line i p) ys (ending (λ a. rtmr_changes v i a.page a.count ys) r)) page h)

-- one of the six words is stored
module _ (m : Machine) (d i v at : ℕ) (ws : ℕ → ℕ) (h : Option Measure) (in_page : d < m.pages) (few : i < 4) where
  abbrev Stores : (k there x : ℕ) → Type 0
  Stores k there x = HandsAt m (put_six (rtmr_at d i) ws (put_next v at ∷ [])) k h h (Some (write.Word (step.Store there x)))

  stored : (k : ℕ) → k < 6 → Stores k (word_at d (16 + (6 * i + k))) (slice_index (six_words ws) k)
  stored zero small = (omega (arith, in_page, few), λ hand held. (refl, held))
  stored (suc zero) small = (omega (arith, in_page, few), λ hand held. (refl, held))
  stored (suc (suc zero)) small = (omega (arith, in_page, few), λ hand held. (refl, held))
  stored (suc (suc (suc zero))) small = (omega (arith, in_page, few), λ hand held. (refl, held))
  stored (suc (suc (suc (suc zero)))) small = (omega (arith, in_page, few), λ hand held. (refl, held))
  stored (suc (suc (suc (suc (suc zero))))) small = (omega (arith, in_page, few), λ hand held. (refl, held))
  stored (suc (suc (suc (suc (suc (suc k)))))) small = absurd (omega (arith, small))

  pub six-stored : (k there x : ℕ) → k < 6 → there ≡ word_at d (16 + (6 * i + k)) → x ≡ slice_index (six_words ws) k → Stores k there x
  six-stored k there x small place word = subst (λ (p : ℕ). Stores k p x) (sym place) (subst (λ (y : ℕ). Stores k (word_at d (16 + (6 * i + k))) y) (sym word) (stored k small))

-- the twelve words, behind the two that were told before
pub later-words : (xs : List ℕ) → drop 6 (drop 2 xs) ≡ drop 8 xs
later-words [] = refl
later-words (x ∷ []) = refl
later-words (x ∷ y ∷ xs) = refl
