-- What a tree comes to stays so as it is told words.
use Rattle.std.proofs.Common.{◌≡◌, ℕ, ◌-◌, ◌≤◌, true, false, List, [], ◌∷◌, Option, Some, None, refl, ap, arith}
use Rattle.td_words.specs.declared.replies.Reply.{Reply}
use Rattle.word_rules.specs.Views.{look}
use Rattle.leaf_engine.specs.Trees.{Answer, only, Tree, Lock, Load, Test, End, Since, feed}
use Rattle.leaf_table.specs.Ends.{Ends, with_bundles, EndsBy, EndsAs}

pub only-ends : (o : Option ℕ) (r : Reply) (b : Answer) → only r ≡ b → EndsBy o (only r) b
only-ends None r b h = ap (with_bundles []) h
only-ends (Some n) r b h = (ap (with_bundles []) h, tt)

ends-more : (e : Ends) (a b : ℕ) (t : Tree) → a ≤ b → EndsAs e a t → EndsAs e b t
ends-more e a b (Lock l q m t) le few = (let first = few.0 in omega arith, ends-more e (a - 1) (b - 1) t (omega arith) few.1)
ends-more e a b (Load v q k) le few = λ x. ends-more e a b (k (look v x)) le (few x)
ends-more e a b (Test c r t) le few = (few.0, few.1, λ y. ends-more e a b t le (few.2 y))
ends-more e a b (End r fs cs) le few = few
ends-more e a b (Since r cs) le few = few

pub ends-fed : (e : Ends) (n : ℕ) (t : Tree) (xs : List ℕ) → EndsAs e n t → EndsAs e n (feed t xs)
ends-fed e n (Lock l q m t) [] few = few
ends-fed e n (Lock l q m t) (x ∷ xs) few = ends-more e (n - 1) n (feed t xs) (omega arith) (ends-fed e (n - 1) t xs few.1)
ends-fed e n (Load v q k) [] few = few
ends-fed e n (Load v q k) (x ∷ xs) few = ends-fed e n (k (look v x)) xs (few x)
ends-fed e n (Test true r t) xs few = ends-fed e n t xs (few.2 refl)
ends-fed e n (Test false r t) xs few = (only-ends e.makes r (e.answer r) few.0, few.1)
ends-fed e n (End r fs cs) xs few = few
ends-fed e n (Since r cs) xs few = few
