-- Lines of words and of what words are, one by one.
use Rattle.std.proofs.Common.{◌≡◌, ℕ, ◌+◌, ◌-◌, false, ◌==◌, ◌&&◌, nat_lt, nat_le, List, [], ◌∷◌, refl}
use Rattle.std.proofs.lemmas.Bool.{eqb-true}
use Rattle.word_rules.specs.Lines.{Line, At, Run, in_lines}
use Rattle.word_rules.specs.Cells.{IsAs}
use Rattle.word_rules.specs.Rules.{Class, Unused}
use Rattle.word_rules.specs.Spots.{or_unused}
use Rattle.flat_core.proofs.Tests.{by_test}

-- two facts, so that many stand below each other
pub and : {A B : Type 0} → A → B → A × B
and a b = (a, b)

-- a word is as the line says that stands at its place, or as the lines behind it say
pub line : (n i x : ℕ) (rest : List (Line ℕ)) (v : ℕ) → (i ≡ n → v ≡ x) → ((i == n) ≡ false → IsAs (in_lines rest i) v) → IsAs (in_lines (At n x ∷ rest) i) v
line n i x rest v here further = by_test (i == n) (λ e. rw e (here (eqb-true i n e))) (λ e. rw e (further e))

-- what holds of the class of each line, and of unused words, holds of each word's
abbrev pub AllMay : (Class → Type 0) → List (Line Class) → Type 0
AllMay P [] = P Unused
AllMay P (At n c ∷ rest) = P c × AllMay P rest
AllMay P (Run n k f ∷ rest) = ((j : ℕ) → P (or_unused (f j))) × AllMay P rest

pub each-may : (P : Class → Type 0) (ls : List (Line Class)) → AllMay P ls → (i : ℕ) → P (or_unused (in_lines ls i))
each-may P [] h i = h
each-may P (At n c ∷ rest) h i = by_test (i == n) (λ e. rw e h.0) (λ e. rw e (each-may P rest h.1 i))
each-may P (Run n k f ∷ rest) h i = by_test (nat_le n i && nat_lt i (n + k)) (λ e. rw e (h.0 (i - n))) (λ e. rw e (each-may P rest h.1 i))

-- lines of zeros
abbrev pub AllZero : List (Line ℕ) → Type 0
AllZero [] = Unit {0}
AllZero (At n x ∷ rest) = (x ≡ 0) × AllZero rest
AllZero (Run n k xs ∷ rest) = ((j : ℕ) → IsAs (xs j) 0) × AllZero rest

pub zeros : (ls : List (Line ℕ)) → AllZero ls → (i : ℕ) → IsAs (in_lines ls i) 0
zeros [] h i = tt
zeros (At n x ∷ rest) h i = by_test (i == n) (λ e. rw (e, h.0) refl) (λ e. rw e (zeros rest h.1 i))
zeros (Run n k xs ∷ rest) h i = by_test (nat_le n i && nat_lt i (n + k)) (λ e. rw e (h.0 (i - n))) (λ e. rw e (zeros rest h.1 i))
