-- The items that a leaf makes on its bench.
use Rattle.std.specs.Prelude.{◌≡◌, ℕ, ◌⊎◌, Option, None, List, [], ◌∷◌, ◌++◌, length}
use Rattle.td_words.specs.declared.machines.Machine.{Machine}
use Rattle.td_words.specs.Place.{address}
use Rattle.mrtd_measure.specs.declared.measures.Measure.{Measure}
use Rattle.step_core.specs.declared.steps.WordStep.TheVariants as step
use Rattle.step_core.specs.declared.items.Taken.{Taken}
use Rattle.step_core.specs.declared.items.Taken.TheVariants.{Stepped, Swapped, Missed}
use Rattle.step_core.specs.Pages.{clearing, copying}
use Rattle.leaf_engine.specs.declared.needs.Write.{Write}
use Rattle.leaf_engine.specs.declared.needs.Write.TheVariants as write
use Rattle.leaf_engine.specs.Changes.{Change}
use Rattle.leaf_engine.specs.Trees.{Tree, Load, settle, fed}
use Rattle.leaf_engine.specs.Decides.{HandsOut}

-- a tree that comes to the load of this address
abbrev pub IsLoadAt : ℕ → Tree → ℕ → Type 0
IsLoadAt n (Load v q k) at = at ≡ address n q
IsLoadAt n _ at = ⊥

-- these items are loads of a tree, in order, and leave the second tree
abbrev pub IsLoaded : ℕ → Tree → List Taken → Tree → Type 0
IsLoaded n t [] u = t ≡ u
IsLoaded n t (Stepped s answer ∷ xs) u = ((at : ℕ) × IsLoadAt n (settle t) at × (s ≡ step.Load at)) × IsLoaded n (fed (settle t) answer) xs u
IsLoaded n t (_ ∷ xs) u = ⊥

-- these items are one write, with the hasher in hand before and then
abbrev pub IsWritten : Write → Option Measure → List Taken → Option Measure → Type 0
IsWritten (write.Word s) h xs h' = (h' ≡ h) × ((answer : ℕ) × (xs ≡ Stepped s answer ∷ []))
IsWritten (write.Zero p) h xs h' = (h' ≡ h) × (xs ≡ clearing p 512)
IsWritten (write.Copy p q) h xs h' = (h' ≡ h) × ((seen : List ℕ) × (length seen ≡ 512) × (xs ≡ copying p q 0 seen))
IsWritten (write.Swap slot) h xs h' = (xs ≡ Swapped slot h h' ∷ []) ⊎ ((h' ≡ None) × (xs ≡ Missed slot ∷ []))

-- these items are one change: it is handed out, and written
pub record IsChanged (m : Machine) (c : Change) (h : Option Measure) (xs : List Taken) (h' : Option Measure) : Type 0 where
  pub write : Write
  pub between : Option Measure
  pub handed : HandsOut m c h between write
  pub written : IsWritten write between xs h'

-- these items are changes in order
abbrev pub AreChanged : Machine → List Change → Option Measure → List Taken → Option Measure → Type 0
AreChanged m [] h xs h' = (h' ≡ h) × (xs ≡ [])
AreChanged m (c ∷ cs) h xs h' =
    (between : Option Measure) × ((ys : List Taken) × ((zs : List Taken) × (xs ≡ ys ++ zs) × IsChanged m c h ys between × AreChanged m cs between zs h'))
