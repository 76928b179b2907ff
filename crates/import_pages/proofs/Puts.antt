-- The writes of the words of a page, and of what comes behind them, by their numbers.
use Rattle.std.proofs.Common.{◌≡◌, ℕ, zero, suc, ◌+◌, ◌<◌, List, ◌++◌, Option, Some, refl, sym, subst, arith}
use Rattle.td_words.specs.Address.{word_at}
use Rattle.td_words.specs.declared.machines.Machine.{Machine}
use Rattle.mrtd_measure.specs.declared.measures.Measure.{Measure}
use Rattle.step_core.specs.Words.{word_count}
use Rattle.step_core.specs.declared.steps.WordStep.TheVariants as step
use Rattle.leaf_engine.specs.declared.needs.Write.{Write}
use Rattle.leaf_engine.specs.declared.needs.Write.TheVariants as write
use Rattle.leaf_engine.specs.Changes.{Change}
use Rattle.leaf_engine.specs.Decides.{HandsAt}
use Rattle.import_pages.specs.PageImportTrees.{word_puts}

module _ (m : Machine) (p : ℕ) (ws : ℕ → ℕ) (tail : List Change) (h : Option Measure) where
  abbrev store : ℕ → Write
  store i = write.Word (step.Store (word_at p i) (ws i))

  hands-from : (from left k : ℕ) → k < left → word_at p (from + k) < word_count m → HandsAt m (word_puts p ws from left ++ tail) k h h (Some (store (from + k)))
  unfolding word_puts
  hands-from from zero k b inside = absurd (omega (arith, b))
  hands-from from (suc left) zero b inside =
      let here : from + 0 ≡ from = omega arith in
      subst (λ (i : ℕ). word_at p i < word_count m → HandsAt m (word_puts p ws from (suc left) ++ tail) 0 h h (Some (store i))) (sym here) (λ n. (n, λ hand is. (refl, is))) inside
  hands-from from (suc left) (suc k) b inside =
      let there : suc from + k ≡ from + suc k = omega arith in
      subst (λ (i : ℕ). word_at p i < word_count m → HandsAt m (word_puts p ws (suc from) left ++ tail) k h h (Some (store i))) there (λ n. hands-from (suc from) left k (omega (arith, b)) n) inside

  pub hands-word : (k : ℕ) → k < 512 → word_at p k < word_count m → (w : Write) → w ≡ store k → HandsAt m (word_puts p ws 0 512 ++ tail) k h h (Some w)
  hands-word k b inside w is =
      let base : 0 + k ≡ k = omega arith in
      subst (λ (v : Write). HandsAt m (word_puts p ws 0 512 ++ tail) k h h (Some v)) (sym is)
      (subst (λ (i : ℕ). HandsAt m (word_puts p ws 0 512 ++ tail) k h h (Some (store i))) base (hands-from 0 512 k b (subst (λ (i : ℕ). word_at p i < word_count m) (sym base) inside)))

  behind-from : (from left j : ℕ) (r : Option Write) → HandsAt m tail j h h r → HandsAt m (word_puts p ws from left ++ tail) (left + j) h h r
  unfolding word_puts
  behind-from from zero j r a = (let here : j ≡ 0 + j = omega arith in subst (λ (i : ℕ). HandsAt m tail i h h r) here a)
  behind-from from (suc left) j r a =
      let there : suc (left + j) ≡ suc left + j = omega arith in
      subst (λ (i : ℕ). HandsAt m (word_puts p ws from (suc left) ++ tail) i h h r) there (behind-from (suc from) left j r a)

  pub hands-behind : (k j : ℕ) (r : Option Write) → k ≡ 512 + j → HandsAt m tail j h h r → HandsAt m (word_puts p ws 0 512 ++ tail) k h h r
  hands-behind k j r is a = subst (λ (i : ℕ). HandsAt m (word_puts p ws 0 512 ++ tail) i h h r) (sym is) (behind-from 0 512 j r a)
