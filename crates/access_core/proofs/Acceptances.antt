-- The acceptance of a page in code: the TDCS page was told first.
use Rattle.std.proofs.Common.{◌≡◌, ℕ, List, ◌∷◌, Result, sym, subst}
use Rattle.td_words.specs.declared.machines.Machine.{Machine}
use Rattle.leaf_engine.specs.declared.plans.Stop.{Stop}
use Rattle.leaf_engine.specs.Decides.{Ending, Decides}
use Rattle.leaf_parts.specs.Words.{page_told}
use Rattle.access_core.specs.AcceptTrees.{accept_at, accept_tree}

pub behind-word : (m : Machine) (t v gpa word d : ℕ) (xs ys : List ℕ) (r : Result Ending Stop) → xs ≡ word ∷ ys → d ≡ page_told m.pages word → Decides m.pages (accept_at m t v gpa d) ys r → Decides m.pages (accept_tree m t v gpa) xs r
behind-word m t v gpa word d xs ys r first page h =
    subst (λ (zs : List ℕ). Decides m.pages (accept_tree m t v gpa) zs r) (sym first) (subst (λ (p : ℕ). Decides m.pages (accept_at m t v gpa p) ys r) page h)
