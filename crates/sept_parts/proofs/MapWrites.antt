-- The write of a number, among more changes: behind the first one, and where further ones come behind what maps a page.
use Rattle.std.proofs.Common.{◌≡◌, ℕ, zero, suc, ◌-◌, ◌<◌, ◌≤◌, List, ◌∷◌, ◌++◌, Option, subst, arith}
use Rattle.td_words.specs.declared.machines.Machine.{Machine}
use Rattle.mrtd_measure.specs.declared.measures.Measure.{Measure}
use Rattle.leaf_engine.specs.declared.needs.Write.{Write}
use Rattle.leaf_engine.specs.Changes.{Change}
use Rattle.leaf_engine.specs.Decides.{HandsAt}
use Rattle.sept_parts.specs.declared.mappings.Mapping.{Mapping}
use Rattle.sept_parts.specs.MapTrees.{map_changes}

module _ (m : Machine) (before after : Option Measure) (r : Option Write) where
  pub hands-behind : (c : Change) (cs : List Change) (n : ℕ) → 1 ≤ n → HandsAt m cs (n - 1) before after r → HandsAt m (c ∷ cs) n before after r
  hands-behind c cs n some h = (let is : suc (n - 1) ≡ n = omega (arith, some) in subst (λ (k : ℕ). HandsAt m (c ∷ cs) k before after r) is h)

  module _ (x : Mapping) (table children : ℕ) (further : List Change) where
    pub hands-mapped : (n : ℕ) → n < 3 → HandsAt m (map_changes m.pages x table children) n before after r → HandsAt m (map_changes m.pages x table children ++ further) n before after r
    hands-mapped zero few h = h
    hands-mapped (suc zero) few h = h
    hands-mapped (suc (suc zero)) few h = h
    hands-mapped (suc (suc (suc n))) few h = absurd (omega (arith, few))

    pub hands-further : (n : ℕ) → 3 ≤ n → HandsAt m further (n - 3) before after r → HandsAt m (map_changes m.pages x table children ++ further) n before after r
    hands-further n some h =
        let is : suc (suc (suc (n - 3))) ≡ n = omega (arith, some) in
        subst (λ (k : ℕ). HandsAt m (map_changes m.pages x table children ++ further) k before after r) is h
