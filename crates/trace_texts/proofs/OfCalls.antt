-- Each event of a run is of a call that its processor has.
use Rattle.std.proofs.Common.{◌≡◌, ℕ, zero, suc, ◌+◌, ◌<◌, ◌≤◌, List, [], ◌∷◌, length, drop, get_or, Option, Some, None, refl, subst, arith, length-drop}
use Rattle.std.specs.List.{All}
use Rattle.std.proofs.lemmas.List.Elements.{All-nil, All-cons}
use Rattle.td_words.specs.declared.calls.Call.{Call}
use Rattle.flat_core.specs.World.{World}
use Rattle.flat_core.specs.Processor.{Lp}
use Rattle.flat_core.specs.Opening.{Opening}
use Rattle.flat_core.specs.Event.{State, Event, event, next_event, event_for, calls_of, lines_left}
use Rattle.trace_lines.specs.declared.traces.Traced.{Traced}
use Rattle.trace_lines.specs.Traces.{traced, traced_first, traces_from}
use Rattle.trace_texts.specs.Names.{IsOfCall}

calls-at : (css : List (List Call)) (p : ℕ) → calls_of css p ≡ get_or css p []
calls-at [] p = refl
calls-at (cs ∷ css) zero = refl
calls-at (cs ∷ css) (suc p) = calls-at css p

some-left : (o : Opening) (w : World) (p : ℕ) (lp : Lp) (cs : List Call) (e : Event) → event_for o w p lp cs ≡ Some e → 0 < length cs
some-left o w p lp [] e h = cc
some-left o w p lp (c ∷ cs) e h = omega arith

behind-some : (n : ℕ) (cs : List Call) → 0 < length (drop n cs) → n + 1 ≤ length cs
behind-some n cs h = omega (arith, h, length-drop n cs)

first-of : (o : Opening) (s s' : State) (n p : ℕ) (z : Option Event) (further : ℕ → List Traced) → next_event o s p ≡ z → ((k : ℕ) → All (IsOfCall o.calls) (further k)) → All (IsOfCall o.calls) (traced_first s s' n p z further)
first-of o s s' n p None further is rest = rest n
first-of o s s' n p (Some e) further is rest =
    let at : length (s.lps p).replies + 1 ≤ length (calls_of o.calls p) = behind-some (length (s.lps p).replies) (calls_of o.calls p) (some-left o s.world p (s.lps p) (lines_left o p (s.lps p)) e is) in
    All-cons (IsOfCall o.calls) (traced s s' n p e) (further (n + 1))
    (omega arith, subst (λ (cs : List Call). length (s.lps p).replies + 1 ≤ length cs) (calls-at o.calls p) at) (rest (n + 1))

pub events-of : (o : Opening) (s : State) (n : ℕ) (xs : List ℕ) → All (IsOfCall o.calls) (traces_from o s n xs)
events-of o s n [] = All-nil (IsOfCall o.calls)
events-of o s n (p ∷ ps) = first-of o s (event o s p) n p (next_event o s p) (λ k. traces_from o (event o s p) k ps) refl (λ k. events-of o (event o s p) k ps)
