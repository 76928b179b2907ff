-- A part of a leaf: a tree with a place for what comes after it, and a function that goes through it.
use Rattle.std.specs.Prelude.{◌≡◌, ℕ, ◌+◌, List, length, Result, Ok, Err}
use Rattle.leaf_engine.specs.declared.plans.Stop.{Stop}
use Rattle.leaf_engine.specs.Trees.{Tree, feed}
use Rattle.leaf_engine.specs.Decides.{Ending, Decides}
use Rattle.leaf_engine.specs.Inside.{StopEarly}

-- of these answers it leaves those; where it passes, what comes after it decides; where it stops, so does the whole
abbrev pub Goes : {A : Type 0} → ℕ → ((A → Tree) → Tree) → (before after : List ℕ) → Result A Stop → Type 0
Goes {A = A} n tree before after (Ok x) = (further : A → Tree) (r : Result Ending Stop) → Decides n (further x) after r → Decides n (tree further) before r
Goes {A = A} n tree before after (Err e) = (further : A → Tree) → Decides n (tree further) before (Err e)

-- it uses so many answers, or stops for want of one of them
abbrev pub Uses : {A : Type 0} → (count : ℕ) → (before after : List ℕ) → Result A Stop → Type 0
Uses count before after (Ok x) = length before ≡ count + length after
Uses count before after (Err e) = StopEarly count (length before) e

-- where it passes, the whole with the answers before it is what comes after it, with those that it leaves
abbrev pub Feeds : {A : Type 0} → ((A → Tree) → Tree) → (before after : List ℕ) → Result A Stop → Type 0
Feeds {A = A} tree before after (Ok x) = (further : A → Tree) → feed (tree further) before ≡ feed (further x) after
Feeds {A = A} tree before after (Err e) = Unit {0}
