-- Traces one after another, and items that they pass over.
use Rattle.std.proofs.Common.{◌≡◌, ◌≢◌, refl, sym, ◌∙◌, ap, ℕ, zero, suc, ◌+◌, ◌<◌, List, [], ◌∷◌, ◌++◌, length, replicate, Option, Some, None, arith, add-zero}
use Rattle.td_words.specs.declared.calls.Call.{Call}
use Rattle.flat_core.specs.World.{World}
use Rattle.flat_core.specs.Processor.{Lp}
use Rattle.flat_core.specs.Opening.{Opening}
use Rattle.flat_core.specs.Event.{State, Event, start, event, next_event, event_for, after_event, lines_left}
use Rattle.flat_core.specs.Run.{play, run, events_in, to_the_end}
use Rattle.flat_core.specs.Bounds.{RunsEnd}
use Rattle.flat_core.specs.Laws.{OthersStay}
use Rattle.flat_core.proofs.Induction.{play_append}
use Rattle.trace_lines.specs.declared.traces.Traced.{Traced}
use Rattle.trace_lines.specs.Traces.{traced, traced_first, traces_from}
use Rattle.trace_lines.specs.Laws.{TracesGoOn}

append-first : (o : Opening) (s s' : State) (n x : ℕ) (xs ys : List ℕ) (z : Option Event)
    → ((k : ℕ) → traces_from o s' k (xs ++ ys) ≡ traces_from o s' k xs ++ traces_from o (play o xs s') (k + length (traces_from o s' k xs)) ys)
    → traced_first s s' n x z (λ k. traces_from o s' k (xs ++ ys))
    ≡ traced_first s s' n x z (λ k. traces_from o s' k xs) ++ traces_from o (play o xs s') (n + length (traced_first s s' n x z (λ k. traces_from o s' k xs))) ys
append-first o s s' n x xs ys None further = further n
append-first o s s' n x xs ys (Some e) further =
    let count : n + 1 + length (traces_from o s' (n + 1) xs) ≡ n + suc (length (traces_from o s' (n + 1) xs)) = omega arith in
    ap (λ (zs : List Traced). traced s s' n x e ∷ zs) (further (n + 1) ∙ ap (λ (k : ℕ). traces_from o s' (n + 1) xs ++ traces_from o (play o xs s') k ys) count)

append-traces : (o : Opening) (s : State) (n : ℕ) (xs ys : List ℕ) → traces_from o s n (xs ++ ys) ≡ traces_from o s n xs ++ traces_from o (play o xs s) (n + length (traces_from o s n xs)) ys
append-traces o s n [] ys = ap (λ (k : ℕ). traces_from o s k ys) (sym (add-zero n))
append-traces o s n (x ∷ xs) ys = append-first o s (event o s x) n x xs ys (next_event o s x) (λ k. append-traces o (event o s x) k xs ys)

-- items behind an event may be others that are told the same
behind : (o : Opening) (s : State) (n p : ℕ) (xs ys : List ℕ) → ((k : ℕ) → traces_from o (event o s p) k xs ≡ traces_from o (event o s p) k ys) → traces_from o s n (p ∷ xs) ≡ traces_from o s n (p ∷ ys)
behind o s n p xs ys same = by (next_event o s p)
  where
    by : (z : Option Event) → traced_first s (event o s p) n p z (λ k. traces_from o (event o s p) k xs) ≡ traced_first s (event o s p) n p z (λ k. traces_from o (event o s p) k ys)
    by None = same n
    by (Some e) = ap (λ (zs : List Traced). traced s (event o s p) n p e ∷ zs) (same (n + 1))

-- a processor without lines

pub no-event : (o : Opening) (s : State) (p : ℕ) → lines_left o p (s.lps p) ≡ [] → next_event o s p ≡ None
no-event o s p e = ap (λ (cs : List Call). event_for o s.world p (s.lps p) cs) e

pub stays : (o : Opening) (s : State) (p : ℕ) → lines_left o p (s.lps p) ≡ [] → event o s p ≡ s
stays o s p e = ap (λ (x : Option Event). after_event p s x) (no-event o s p e)

one-idle : (o : Opening) (s : State) (n p : ℕ) (xs : List ℕ) → lines_left o p (s.lps p) ≡ [] → traces_from o s n (p ∷ xs) ≡ traces_from o s n xs
one-idle o s n p xs e = ap (λ (z : Option Event). traced_first s (after_event p s z) n p z (λ k. traces_from o (after_event p s z) k xs)) (no-event o s p e)

stay-idle : (o : Opening) (s : State) (p k : ℕ) → lines_left o p (s.lps p) ≡ [] → play o (replicate k p) s ≡ s
stay-idle o s p zero e = refl
stay-idle o s p (suc k) e = ap (play o (replicate k p)) (stays o s p e) ∙ stay-idle o s p k e

no-lines : (o : Opening) (w : World) (p : ℕ) (lp : Lp) (cs : List Call) → event_for o w p lp cs ≡ None → cs ≡ []
no-lines o w p lp [] e = refl
no-lines o w p lp (c ∷ cs) e = cc

others-leave : OthersStay → (o : Opening) (s : State) (p q n : ℕ) → q ≢ p → (play o (replicate n p) s).lps q ≡ s.lps q
others-leave others o s p q zero ne = refl
others-leave others o s p q (suc n) ne = others-leave others o (event o s p) p q n ne ∙ others o s p q ne

-- those from a number on leave those below it
later-leave : OthersStay → (o : Opening) (s : State) (css : List (List Call)) (k p : ℕ) → p < k → (play o (to_the_end k css) s).lps p ≡ s.lps p
later-leave others o s [] k p below = refl
later-leave others o s (cs ∷ css) k p below =
    let ne : p ≢ k = λ x. absurd (omega (arith, x)) in
    let s' : State = play o (replicate (events_in cs) k) s in
    ap (λ (z : State). z.lps p) (play_append o (replicate (events_in cs) k) (to_the_end (suc k) css) s)
    ∙ (later-leave others o s' css (suc k) p (omega (arith, below)) ∙ others-leave others o s k p (events_in cs) ne)

one-behind : (m p : ℕ) (xs : List ℕ) → p ∷ (replicate m p ++ xs) ≡ replicate m p ++ p ∷ xs
one-behind zero p xs = refl
one-behind (suc m) p xs = ap (λ zs. p ∷ zs) (one-behind m p xs)

-- What is made of a state by items, one after another, where an item of a processor without lines adds nothing to it, and those
-- behind an event may be others of which the same is made.
module _ {A : Type 0} (o : Opening) (made : ℕ → List ℕ → State → A)
    (idle : (s : State) (n p : ℕ) (xs : List ℕ) → lines_left o p (s.lps p) ≡ [] → made n (p ∷ xs) s ≡ made n xs s)
    (alike : (s : State) (n p : ℕ) (xs ys : List ℕ) → ((k : ℕ) → made k xs (event o s p) ≡ made k ys (event o s p)) → made n (p ∷ xs) s ≡ made n (p ∷ ys) s) where
  in-front : (s : State) (n : ℕ) (xs ys zs : List ℕ) → ((k : ℕ) → made k ys (play o xs s) ≡ made k zs (play o xs s)) → made n (xs ++ ys) s ≡ made n (xs ++ zs) s
  in-front s n [] ys zs same = same n
  in-front s n (x ∷ xs) ys zs same = alike s n x (xs ++ ys) (xs ++ zs) (λ k. in-front (event o s x) k xs ys zs same)

  all-idle : (s : State) (n p k : ℕ) (xs : List ℕ) → lines_left o p (s.lps p) ≡ [] → made n (replicate k p ++ xs) s ≡ made n xs s
  all-idle s n p zero xs e = refl
  all-idle s n p (suc k) xs e = idle s n p (replicate k p ++ xs) e ∙ all-idle s n p k xs e

  -- one more of processor p, from processor k on, with p among those that are left
  one-more : OthersStay → (s : State) (p n : ℕ) → ((q : ℕ) → q < p → lines_left o q (s.lps q) ≡ []) → (css : List (List Call)) (k j : ℕ) → k + j ≡ p → j < length css
      → lines_left o p ((play o (to_the_end k css) s).lps p) ≡ [] → made n (p ∷ to_the_end k css) s ≡ made n (to_the_end k css) s
  one-more others s p n ended [] k j e inside last = absurd (omega arith)
  one-more others s p n ended (cs ∷ css) k zero e inside last =
      let m = events_in cs in
      let k-is : k ≡ p = omega (arith, e) in
      let s' : State = play o (replicate m p) s in
      let further = to_the_end (suc k) css in
      let there : lines_left o p ((play o (replicate m p ++ further) s).lps p) ≡ [] = ap (λ (z : ℕ). lines_left o p ((play o (replicate m z ++ further) s).lps p)) (sym k-is) ∙ last in
      let mine : lines_left o p (s'.lps p) ≡ [] =
      ap (λ (z : Lp). lines_left o p z) (sym (later-leave others o s' css (suc k) p (omega (arith, k-is))))
      ∙ (ap (λ (z : State). lines_left o p (z.lps p)) (sym (play_append o (replicate m p) further s)) ∙ there) in
      ap (λ (z : ℕ). made n (p ∷ (replicate m z ++ further)) s) k-is
      ∙ (ap (λ (zs : List ℕ). made n zs s) (one-behind m p further)
      ∙ (in-front s n (replicate m p) (p ∷ further) further (λ i. idle s' i p further mine) ∙ ap (λ (z : ℕ). made n (replicate m z ++ further) s) (sym k-is)))
  one-more others s p n ended (cs ∷ css) k (suc j) e inside last =
      let m = events_in cs in
      let before : lines_left o k (s.lps k) ≡ [] = ended k (omega (arith, e)) in
      let ne : k ≢ p = λ x. absurd (omega (arith, x, e)) in
      let further = to_the_end (suc k) css in
      let after : lines_left o k ((event o s p).lps k) ≡ [] = ap (λ (z : Lp). lines_left o k z) (others o s p k ne) ∙ before in
      let there : lines_left o p ((play o further s).lps p) ≡ [] =
      ap (λ (z : State). lines_left o p ((play o further z).lps p)) (sym (stay-idle o s k m before)) ∙ (ap (λ (z : State). lines_left o p (z.lps p)) (sym (play_append o (replicate m k) further s)) ∙ last) in
      alike s n p (replicate m k ++ further) further (λ i. all-idle (event o s p) i k m further after)
      ∙ (one-more others s p n ended css (suc k) j (omega (arith, e)) (omega (arith, inside)) there ∙ sym (all-idle s n k m further before))

  -- where the run goes on to its end
  pub one-more-item : OthersStay → RunsEnd → (xs : List ℕ) (n p : ℕ) → p < length o.calls → let s = play o xs (start o None) in ((q : ℕ) → q < p → lines_left o q (s.lps q) ≡ []) → made n (p ∷ to_the_end 0 o.calls) s ≡ made n (to_the_end 0 o.calls) s
  one-more-item others ends xs n p inside ended =
      let end = to_the_end 0 o.calls in
      let last : lines_left o p ((play o end (play o xs (start o None))).lps p) ≡ [] =
      ap (λ (z : State). lines_left o p (z.lps p)) (sym (play_append o xs end (start o None))) ∙ no-lines o (run o xs).world p ((run o xs).lps p) (lines_left o p ((run o xs).lps p)) (ends o None xs p) in
      one-more others (play o xs (start o None)) p n ended o.calls 0 p (omega arith) inside last

  -- where all have ended nothing is left
  pub none-left : (s : State) (n : ℕ) (css : List (List Call)) (k : ℕ) → ((q : ℕ) → q < k + length css → lines_left o q (s.lps q) ≡ []) → made n (to_the_end k css) s ≡ made n [] s
  none-left s n [] k ended = refl
  none-left s n (cs ∷ css) k ended = all-idle s n k (events_in cs) (to_the_end (suc k) css) (ended k (omega arith)) ∙ none-left s n css (suc k) (λ q below. ended q (omega (arith, below)))

pub traces-go-on : OthersStay → RunsEnd → TracesGoOn
traces-go-on others ends = record {
  append = append-traces;
  idle = one-idle;
  one_more = λ o xs n. one-more-item o (λ k zs s. traces_from o s k zs) (one-idle o) (behind o) others ends xs n;
  ended = λ o s n ended. none-left o (λ k zs z. traces_from o z k zs) (one-idle o) (behind o) s n o.calls 0 (λ q below. ended q (omega (arith, below)));
}
