-- Events one after another, and items that make none.
use Rattle.std.proofs.Common.{◌≡◌, refl, ◌∙◌, ap, ℕ, zero, suc, List, [], ◌∷◌, Option, Some, arith}
use Rattle.flat_core.specs.Opening.{Opening}
use Rattle.flat_core.specs.Event.{State, Event, event, next_event, after_event, lines_left}
use Rattle.flat_core.specs.Bounds.{RunsEnd}
use Rattle.flat_core.specs.Laws.{OthersStay}
use Rattle.trace_lines.proofs.Going.{no-event, one-more-item, none-left}
use Rattle.state_lines.specs.After.{still_due, after_events}
use Rattle.state_lines.specs.Laws.{StatesGoOn}

moved : (o : Opening) (s : State) (n p : ℕ) (e : Event) (ps : List ℕ) → next_event o s p ≡ Some e → after_events o (suc n) (p ∷ ps) s ≡ after_events o n ps (event o s p)
moved o s n p e ps is = ap (λ (z : Option Event). after_events o (still_due z n) ps (event o s p)) is

-- items behind an event may be others that lead to the same
behind : (o : Opening) (s : State) (n p : ℕ) (xs ys : List ℕ) → ((k : ℕ) → after_events o k xs (event o s p) ≡ after_events o k ys (event o s p)) → after_events o n (p ∷ xs) s ≡ after_events o n (p ∷ ys) s
behind o s zero p xs ys same = refl
behind o s (suc n) p xs ys same = same (still_due (next_event o s p) n)

-- a processor without lines

one-idle : (o : Opening) (s : State) (n p : ℕ) (xs : List ℕ) → lines_left o p (s.lps p) ≡ [] → after_events o n (p ∷ xs) s ≡ after_events o n xs s
one-idle o s zero p xs e = refl
one-idle o s (suc n) p xs e = ap (λ (z : Option Event). after_events o (still_due z n) xs (after_event p s z)) (no-event o s p e)

nothing-left : (o : Opening) (n : ℕ) (s : State) → after_events o n [] s ≡ s
nothing-left o zero s = refl
nothing-left o (suc n) s = refl

pub states-go-on : OthersStay → RunsEnd → StatesGoOn
states-go-on others ends = record {
  moved = moved;
  idle = one-idle;
  one_more = λ o xs n. one-more-item o (after_events o) (one-idle o) (behind o) others ends xs n;
  ended = λ o s n ended. none-left o (after_events o) (one-idle o) (behind o) s n o.calls 0 (λ q below. ended q (omega (arith, below))) ∙ nothing-left o n s;
}
