-- A decision that stops has made no bundle.
use Rattle.std.proofs.Common.{◌≡◌, ℕ, List, [], ◌∷◌, Err, refl}
use Rattle.word_rules.specs.Views.{look}
use Rattle.leaf_engine.specs.declared.plans.Stop.{Stop}
use Rattle.leaf_engine.specs.Trees.{Tree, Lock, Load, Test, End, Since, feed, answer_of}
use Rattle.leaf_engine.specs.Decides.{Decides}
use Rattle.flat_core.proofs.Tests.{by_test}

pub none-made : (n : ℕ) (tree : Tree) (told : List ℕ) (e : Stop) → Decides n tree told (Err e) → (answer_of (feed tree told)).bundles ≡ []
none-made n (Lock l q mode t) [] e d = refl
none-made n (Lock l q mode t) (x ∷ xs) e d = none-made n t xs e d
none-made n (Load v q k) [] e d = refl
none-made n (Load v q k) (x ∷ xs) e d = none-made n (k (look v x)) xs e d
none-made n (Test b out t) xs e d = by_test b (λ y. rw y (none-made n t xs e (d.0 y))) (λ y. rw y refl)
none-made n (End a fs cs) xs e d = absurd d
none-made n (Since a cs) xs e d = absurd d
