-- Items to the end of a module, in processors' number order.
use Rattle.std.specs.Prelude.{ℕ, ◌≤◌, List, [], ◌∷◌, All}

-- numbers that rise, or stay
abbrev pub Rising : List ℕ → Type 0
Rising [] = Unit {0}
Rising (p ∷ ps) = All (λ q. p ≤ q) ps × Rising ps
