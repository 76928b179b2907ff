-- Words that are told one after another: where one is missing, and where all are told.
use Rattle.std.proofs.Common.{◌≡◌, ℕ, zero, suc, ◌+◌, ◌<◌, ◌≤◌, List, [], ◌∷◌, length, take, drop, Err, Result, refl, sym, subst, arith}
use Rattle.td_words.specs.Place.{WordPlace, address}
use Rattle.leaf_engine.specs.declared.plans.Stop.{Stop}
use Rattle.leaf_engine.specs.declared.plans.Stop.TheVariants as stop
use Rattle.leaf_engine.specs.Decides.{Decides, Ending}
use Rattle.leaf_engine.specs.Trees.{Tree, feed}
use Rattle.access_core.specs.RtmrTrees.{with_words}

-- the next word is asked for
pub words-stop : (n : ℕ) (at : ℕ → WordPlace) (from left : ℕ) (f : List ℕ → Tree) (xs : List ℕ) → length xs < left → Decides n (with_words at from left f) xs (Err (stop.Load (address n (at (from + length xs)))))
words-stop n at from zero f xs b = absurd (omega (arith, b))
words-stop n at from (suc left) f [] b =
    let here : from + 0 ≡ from = omega arith in
    subst (λ (i : ℕ). Decides n (with_words at from (suc left) f) [] (Err (stop.Load (address n (at i))))) (sym here) refl
words-stop n at from (suc left) f (x ∷ xs) b =
    let there : from + 1 + length xs ≡ from + suc (length xs) = omega arith in
    subst (λ (i : ℕ). Decides n (with_words at (from + 1) left (λ ws. f (x ∷ ws))) xs (Err (stop.Load (address n (at i))))) there
    (words-stop n at (from + 1) left (λ ws. f (x ∷ ws)) xs (omega (arith, b)))

-- all are told
pub words-go : (n : ℕ) (at : ℕ → WordPlace) (from left : ℕ) (f : List ℕ → Tree) (xs : List ℕ) (r : Result Ending Stop) → left ≤ length xs → Decides n (f (take left xs)) (drop left xs) r → Decides n (with_words at from left f) xs r
words-go n at from zero f xs r b d = d
words-go n at from (suc left) f [] r b d = absurd (omega (arith, b))
words-go n at from (suc left) f (x ∷ xs) r b d = words-go n at (from + 1) left (λ ws. f (x ∷ ws)) xs r (omega (arith, b)) d

pub words-fed : (at : ℕ → WordPlace) (from left : ℕ) (f : List ℕ → Tree) (xs : List ℕ) → left ≤ length xs → feed (with_words at from left f) xs ≡ feed (f (take left xs)) (drop left xs)
words-fed at from zero f xs b = refl
words-fed at from (suc left) f [] b = absurd (omega (arith, b))
words-fed at from (suc left) f (x ∷ xs) b = words-fed at (from + 1) left (λ ws. f (x ∷ ws)) xs (omega (arith, b))
