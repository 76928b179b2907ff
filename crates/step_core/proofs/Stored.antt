-- A write into a list of words is a step on the words by address.
use Rattle.std.proofs.Common.{◌≡◌, ℕ, ◌<◌, List, length, true, ◌==◌, if◌then◌else◌, slice_index, slice_set, arith}
use Rattle.std.proofs.lemmas.Grind.{common_steps}
use Rattle.std.proofs.lemmas.Bool.Decides.{nat_tests}
use Rattle.step_core.specs.declared.steps.WordStep.TheVariants.{Exchange}
use Rattle.step_core.specs.Words.{after_step}

stored_at : (ws : List ℕ) (at v n : ℕ) → at < length ws → slice_index (slice_set ws at v) n ≡ (if n == at then v else slice_index ws n)
stored_at ws at v n h = grind (arith, nat_tests, common_steps)

pub exchanged : (ws : List ℕ) (at old new : ℕ) → at < length ws → (slice_index ws at == old) ≡ true → (λ n. slice_index (slice_set ws at new) n) ≡ after_step (λ n. slice_index ws n) (Exchange at old new)
exchanged ws at old new h same = rw same (λ i. λ n. stored_at ws at new n h i)
