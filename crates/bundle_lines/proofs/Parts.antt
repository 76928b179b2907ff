-- A text to which two parts are added.
use Rattle.std.proofs.Common.{◌≡◌, ◌∙◌, ap, ℕ, List, ◌++◌, Result, Ok, Err, OnOk, append_assoc}

-- the second part where it was added, after the first
pub two-parts : {E : Type 0} (r : Result (Unit {0}) E) (old between new first second third : List ℕ) → between ≡ old ++ first → second ≡ third → OnOk r (new ≡ between ++ second) → OnOk r (new ≡ old ++ (first ++ third))
two-parts (Ok t) old between new first second third e f h = h ∙ (ap (λ x. x ++ second) e ∙ (append_assoc old first second ∙ ap (λ x. old ++ (first ++ x)) f))
two-parts (Err x) old between new first second third e f h = tt
