-- The words of MRTD that the call stores which ends a TD's measurement are those of the digest in hand.
use Rattle.std.proofs.Common.{◌≡◌, ℕ, zero, suc, ◌+◌, ◌<◌, nat_lt, Bool, true, Option, Some, refl, sym, subst, arith}
use Rattle.std.proofs.lemmas.Bool.{ltb-true}
use Rattle.td_words.specs.declared.machines.Machine.{Machine}
use Rattle.td_words.specs.Address.{word_at}
use Rattle.mrtd_measure.specs.declared.measures.Measure.{Measure}
use Rattle.step_core.specs.Words.{word_count}
use Rattle.step_core.specs.declared.steps.WordStep.TheVariants as step
use Rattle.leaf_engine.specs.declared.needs.Write.{Write}
use Rattle.leaf_engine.specs.declared.needs.Write.TheVariants as write
use Rattle.leaf_engine.specs.Changes.{Hand, changes_where}
use Rattle.leaf_engine.specs.Decides.{IsHand, HandsAt}
use Rattle.leaf_parts.specs.Words.{is_hkid}
use Rattle.td_control.specs.FinalTrees.{word_in_hand, end_changes, final_changes}

module _ (m : Machine) (tdcs hkid : ℕ) (h : Option Measure) (is : is_hkid m hkid ≡ true) (in_page : nat_lt tdcs m.pages ≡ true) where
  abbrev pub At : ℕ → Write → Type 0
  At k w = HandsAt m (final_changes m tdcs hkid) k h h (Some w)

  abbrev store : (i x : ℕ) → Write
  store i x = write.Word (step.Store (word_at tdcs i) x)

  inside : (i : ℕ) → i < 512 → word_at tdcs i < word_count m
  inside i few = (let below = ltb-true tdcs m.pages in_page in omega (arith, few, below))

  hands : (k : ℕ) (w : Write) → HandsAt m (end_changes tdcs hkid) k h h (Some w) → At k w
  hands k w a = subst (λ (b : Bool). HandsAt m (changes_where b (end_changes tdcs hkid)) k h h (Some w)) (sym is) a

  word : (j x : ℕ) → j < 6 → ((hand : Hand) → IsHand h hand → x ≡ word_in_hand j hand) → HandsAt m (end_changes tdcs hkid) (suc j) h h (Some (store (64 + j) x))
  word zero x b told = (inside 64 (omega arith), λ hand held. (rw (told hand held) refl, held))
  word (suc zero) x b told = (inside 65 (omega arith), λ hand held. (rw (told hand held) refl, held))
  word (suc (suc zero)) x b told = (inside 66 (omega arith), λ hand held. (rw (told hand held) refl, held))
  word (suc (suc (suc zero))) x b told = (inside 67 (omega arith), λ hand held. (rw (told hand held) refl, held))
  word (suc (suc (suc (suc zero)))) x b told = (inside 68 (omega arith), λ hand held. (rw (told hand held) refl, held))
  word (suc (suc (suc (suc (suc zero))))) x b told = (inside 69 (omega arith), λ hand held. (rw (told hand held) refl, held))
  word (suc (suc (suc (suc (suc (suc j)))))) x b told = absurd (omega (arith, b))

  pub word-at : (j k x : ℕ) → j < 6 → k ≡ suc j → ((hand : Hand) → IsHand h hand → x ≡ word_in_hand j hand) → At k (store (64 + j) x)
  word-at j k x few is_k told = subst (λ (i : ℕ). At i (store (64 + j) x)) (sym is_k) (hands (suc j) (store (64 + j) x) (word j x few told))
