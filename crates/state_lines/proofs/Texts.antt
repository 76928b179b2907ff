-- Texts of numbers in order.
use Rattle.std.proofs.Common.{◌≡◌, refl, ◌∙◌, ap, ℕ, zero, suc, ◌+◌, ◌<◌, List, ◌++◌, append_assoc, add-one, arith}
use Rattle.state_lines.specs.Lines.{texts_below}

-- one more behind the text so far
pub one-more : (f : ℕ → List ℕ) (n : ℕ) (start old new : List ℕ) → old ≡ start ++ texts_below f n → new ≡ old ++ f n → new ≡ start ++ texts_below f (n + 1)
one-more f n start old new e g = rw add-one (g ∙ (ap (λ z. z ++ f n) e ∙ append_assoc start (texts_below f n) (f n)))

-- of texts that are the same number by number
pub same-texts : (f g : ℕ → List ℕ) (n : ℕ) → ((k : ℕ) → k < n → f k ≡ g k) → texts_below f n ≡ texts_below g n
same-texts f g zero h = refl
same-texts f g (suc n) h = ap (λ z. z ++ f n) (same-texts f g n (λ k less. h k (omega (arith, less)))) ∙ ap (λ z. texts_below g n ++ z) (h n (omega arith))
