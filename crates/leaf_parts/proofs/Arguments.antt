-- Arguments that hold: what comes after them decides, and is what is left of the tree.
use Rattle.std.proofs.Common.{◌≡◌, ℕ, ◌<◌, Bool, false, ◌==◌, List, [], ◌∷◌, Result, refl, ◌∙◌}
use Rattle.std.proofs.lemmas.Bool.{ltb-true, not-true}
use Rattle.td_words.specs.declared.machines.Machine.{Machine}
use Rattle.td_words.specs.declared.refusals.Status.{Status}
use Rattle.leaf_engine.specs.declared.plans.Stop.{Stop}
use Rattle.leaf_engine.specs.Trees.{Tree, feed}
use Rattle.leaf_engine.specs.Decides.{Ending, Decides}
use Rattle.leaf_parts.specs.Arguments.{checked, AllHold, two_pages}
use Rattle.leaf_parts.proofs.Parts.{passes, feed-passes}

pub arguments-hold : (n : ℕ) (cs : List (Bool × Status)) → AllHold cs → (t : Tree) (xs : List ℕ) (r : Result Ending Stop) → Decides n t xs r → Decides n (checked cs t) xs r
arguments-hold n [] h t xs r d = d
arguments-hold n (c ∷ cs) h t xs r d = passes n c.0 c.1 (checked cs t) xs r h.0 (arguments-hold n cs h.1 t xs r d)

pub arguments-fed : (cs : List (Bool × Status)) → AllHold cs → (t : Tree) (xs : List ℕ) → feed (checked cs t) xs ≡ feed t xs
arguments-fed [] h t xs = refl
arguments-fed (c ∷ cs) h t xs = feed-passes c.0 c.1 (checked cs t) xs h.0 ∙ arguments-fed cs h.1 t xs

-- two pages of the machine, which are not the same
pub record TwoPages (m : Machine) (t p : ℕ) : Type 0 where
  pub tdr : t < m.pages
  pub page : p < m.pages
  pub apart : (p == t) ≡ false

pub two-pages : (m : Machine) (t p : ℕ) → AllHold (two_pages m t p) → TwoPages m t p
two-pages m t p a = record { tdr = ltb-true t m.pages a.0; page = ltb-true p m.pages a.1.0; apart = not-true (p == t) a.1.1.0 }
