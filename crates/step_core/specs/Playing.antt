-- Items that are played one after another, as the bench's laws want it.
use Rattle.std.specs.Prelude.{◌≡◌, List, [], ◌∷◌, ◌++◌}
use Rattle.std.proofs.Common.{subst}
use Rattle.step_core.specs.Words.{after_step}
use Rattle.step_core.specs.Items.{Table, PlaysTo, with_slot}
use Rattle.step_core.specs.declared.items.Taken.{Taken}
use Rattle.step_core.specs.declared.items.Taken.TheVariants.{Stepped, Swapped, Missed}

same_table : (t u : Table) → u.words ≡ t.words → u.slots ≡ t.slots → u ≡ t
same_table t u p q = λ i. record { words = p i; slots = q i }

pub PlaysTo-append : (t u v : Table) (xs ys : List Taken) → PlaysTo t xs u → PlaysTo u ys v → PlaysTo t (xs ++ ys) v
PlaysTo-append t u v [] ys p q = subst (λ (z : Table). PlaysTo z ys v) (same_table t u p.0 p.1) q
PlaysTo-append t u v (Stepped s a ∷ xs) ys p q = (p.0, PlaysTo-append (record t { words = after_step t.words s }) u v xs ys p.1 q)
PlaysTo-append t u v (Swapped k put taken ∷ xs) ys p q = (p.0, PlaysTo-append (record t { slots = with_slot t.slots k put }) u v xs ys p.1 q)
PlaysTo-append t u v (Missed k ∷ xs) ys p q = absurd p
