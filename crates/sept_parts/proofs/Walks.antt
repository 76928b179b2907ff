-- A walk level by level: at its end, and one level down.
use Rattle.std.proofs.Common.{◌≡◌, ℕ, zero, suc, ◌-◌, List, Result, Ok, Err, refl, sym, subst}
use Rattle.leaf_engine.specs.declared.plans.Stop.{Stop}
use Rattle.leaf_engine.specs.Trees.{Tree}
use Rattle.leaf_parts.specs.Parts.{Goes, Feeds}
use Rattle.leaf_parts.proofs.Parts.{goes-on, goes-off, feeds-on}
use Rattle.sept_parts.specs.SeptTrees.{below_tree, walk_on_tree}

module _ (pages gpa : ℕ) where
  abbrev pub on : (n from page : ℕ) → (ℕ → Tree) → Tree
  on n from page f = walk_on_tree pages gpa n from page f

  abbrev pub down : (from page : ℕ) → (ℕ → Tree) → Tree
  down from page f = below_tree pages page gpa from f

  -- it has come to its level
  pub goes-here : (n from page : ℕ) (left : List ℕ) → n ≡ 0 → Goes pages (on n from page) left left (Ok page)
  goes-here zero from page left e = λ further r d. d
  goes-here (suc n) from page left e = cc

  pub feeds-here : (n from page : ℕ) (left : List ℕ) → n ≡ 0 → Feeds (on n from page) left left (Ok page)
  feeds-here zero from page left e = λ further. refl
  feeds-here (suc n) from page left e = cc

  -- it goes one level down
  pub goes-down : (n k from page next : ℕ) (before between after : List ℕ) (r : Result ℕ Stop) → n ≡ suc k
      → Goes pages (down from page) before between (Ok next) → Goes pages (on k (from - 1) next) between after r → Goes pages (on n from page) before after r
  goes-down n k from page next before between after r e a b =
      subst (λ (x : ℕ). Goes pages (on x from page) before after r) (sym e) (goes-on pages (down from page) (λ y. on k (from - 1) y) before between after next r a b)

  pub goes-failed : (n k from page : ℕ) (before between after : List ℕ) (s : Stop) (r : Result ℕ Stop) → n ≡ suc k → r ≡ Err s
      → Goes pages (down from page) before between (Err s) → Goes pages (on n from page) before after r
  goes-failed n k from page before between after s r e is a =
      subst (λ (x : ℕ). Goes pages (on x from page) before after r) (sym e) (goes-off pages (down from page) (λ y. on k (from - 1) y) before between after s r is a)

  pub feeds-down : (n k from page next : ℕ) (before between after : List ℕ) (r : Result ℕ Stop) → n ≡ suc k
      → Feeds (down from page) before between (Ok next) → Feeds (on k (from - 1) next) between after r → Feeds (on n from page) before after r
  feeds-down n k from page next before between after r e a b =
      subst (λ (x : ℕ). Feeds (on x from page) before after r) (sym e) (feeds-on (down from page) (λ y. on k (from - 1) y) before between after next r a b)
