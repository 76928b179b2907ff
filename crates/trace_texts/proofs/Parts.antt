-- A text to which three parts are added.
use Rattle.std.proofs.Common.{◌≡◌, ◌∙◌, ap, List, ◌++◌, Result, Ok, Err, OnOk, is_ok, if◌then◌else◌, append_assoc}

-- the third part where it was added, after the first and the second
pub three-parts : {A E : Type 0} (r : Result (Unit {0}) E) (old once twice new a a' b c c' : List A) → once ≡ old ++ a → a ≡ a' → twice ≡ once ++ b → c ≡ c' → new ≡ (if is_ok r then twice ++ c else twice) → OnOk r (new ≡ old ++ (a' ++ (b ++ c')))
three-parts (Ok t) old once twice new a a' b c c' first is second last h =
    h
    ∙ (ap (λ x. x ++ c) (second ∙ ap (λ x. x ++ b) (first ∙ ap (λ x. old ++ x) is))
    ∙ (ap (λ x. ((old ++ a') ++ b) ++ x) last
    ∙ (append_assoc (old ++ a') b c' ∙ append_assoc old a' (b ++ c'))))
three-parts (Err x) old once twice new a a' b c c' first is second last h = tt
