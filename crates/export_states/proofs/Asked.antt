-- Parts of an export behind conditions that hold.
use Rattle.std.proofs.Common.{◌≡◌, ℕ, List, Result, Ok, Err, ◌∙◌}
use Rattle.leaf_engine.specs.declared.plans.Stop.{Stop}
use Rattle.leaf_engine.specs.Decides.{Ending, Decides}
use Rattle.leaf_engine.specs.Trees.{Tree, feed}
use Rattle.leaf_parts.specs.Parts.{Goes, Feeds}

-- one part after another behind them
pub goes-behind : {A B : Type 0} (n : ℕ) (conditions : Tree → Tree) → ((t : Tree) (xs : List ℕ) (r : Result Ending Stop) → Decides n t xs r → Decides n (conditions t) xs r)
    → (first : (A → Tree) → Tree) (second : A → (B → Tree) → Tree) (before between after : List ℕ) (x : A) (r : Result B Stop)
    → Goes n first before between (Ok x) → Goes n (second x) between after r → Goes n (λ f. conditions (first (λ y. second y f))) before after r
goes-behind n conditions hold first second before between after x (Ok y) a b = λ further v d. hold (first (λ z. second z further)) before v (a (λ z. second z further) v (b further v d))
goes-behind n conditions hold first second before between after x (Err e) a b = λ further. hold (first (λ z. second z further)) before (Err e) (a (λ z. second z further) (Err e) (b further))

pub feeds-behind : {A B : Type 0} (conditions : Tree → Tree) → ((t : Tree) (xs : List ℕ) → feed (conditions t) xs ≡ feed t xs)
    → (first : (A → Tree) → Tree) (second : A → (B → Tree) → Tree) (before between after : List ℕ) (x : A) (r : Result B Stop)
    → Feeds first before between (Ok x) → Feeds (second x) between after r → Feeds (λ f. conditions (first (λ y. second y f))) before after r
feeds-behind conditions hold first second before between after x (Ok y) a b = λ further. hold (first (λ z. second z further)) before ∙ (a (λ z. second z further) ∙ b further)
feeds-behind conditions hold first second before between after x (Err e) a b = tt
