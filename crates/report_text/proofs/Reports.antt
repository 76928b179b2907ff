-- The line of a report is put in two pieces: what stands in front of its digits, and these with the newline.
use Rattle.std.proofs.Common.{◌≡◌, ◌∙◌, ap, ℕ, List, [], ◌∷◌, ◌++◌, append_assoc, Result, Ok, Err, OnOk, is_ok, if◌then◌else◌, codes}

pub line_of : (lp number digits : List ℕ) → (lp ++ (codes "." ++ (number ++ codes " report "))) ++ (digits ++ 10 ∷ []) ≡ lp ++ (codes "." ++ (number ++ (codes " " ++ ((codes "report " ++ digits) ++ 10 ∷ []))))
line_of lp number digits = append_assoc lp (codes "." ++ (number ++ codes " report ")) (digits ++ 10 ∷ []) ∙ ap (λ rest. lp ++ (codes "." ++ rest)) (append_assoc number (codes " report ") (digits ++ 10 ∷ []))

pub two_pieces : {X E : Type 0} (r : Result X E) (new between old first second line : List ℕ) → new ≡ (if is_ok r then between ++ second else between) → between ≡ old ++ first → first ++ second ≡ line → OnOk r (new ≡ old ++ line)
two_pieces (Ok x) new between old first second line put behind is =
    put ∙ ap (λ text. text ++ second) behind ∙ append_assoc old first second ∙ ap (λ rest. old ++ rest) is
two_pieces (Err e) new between old first second line put behind is = tt
