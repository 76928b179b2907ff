-- Each call line gets exactly one reply.
use Rattle.std.proofs.Common.{◌≡◌, refl, sym, subst, ap, inl, inr, ℕ, zero, suc, ◌<◌, ◌≤◌, List, [], ◌∷◌, ◌++◌, length, drop, Option, Some, None, Bool, ◌==◌, arith, length-append}
use Rattle.std.proofs.lemmas.Bool.{eqb-true}
use Rattle.td_words.specs.declared.calls.Call.{Call}
use Rattle.td_words.specs.declared.replies.Reply.{Reply}
use Rattle.flat_core.specs.World.{World}
use Rattle.flat_core.specs.Processor.{Held, Phase, Trying, Undoing, Answered, Lp}
use Rattle.flat_core.specs.Opening.{Opening}
use Rattle.flat_core.specs.Event.{State, Event, OfCall, OfOperation, Walks, Reaches, Leaves, next_event, event_for, lines_left, calls_of, after_event, lp_after, call_lp, settle, is_granted}
use Rattle.flat_core.specs.Run.{to_the_end, run_telling}
use Rattle.flat_core.specs.Replies.{IsOneMore, RepliesComeOneByOne, AreToLines, RepliesAreKept, RepliesAreToLines, EveryLineIsAnswered}
use Rattle.flat_core.specs.Laws.{with_bundles}
use Rattle.flat_core.proofs.Tests.{by_test}
use Rattle.flat_core.proofs.Induction.{event_keeps, in_runs}
use Rattle.flat_core.proofs.Refused.{same_replies, after_here}
use Rattle.flat_core.proofs.Ends.{runs_end}

settled_once : (phase : Phase Reply) (hs : List Held) (lp : Lp) → IsOneMore lp.replies (settle phase hs lp).replies
settled_once (Answered r) [] lp = inr (r, refl)
settled_once (Answered r) (h ∷ hs) lp = inl refl
settled_once Trying hs lp = inl refl
settled_once (Undoing l) hs lp = inl refl

once : (w : World) (b : Bool) (e : Event) (lp : Lp) → IsOneMore lp.replies (lp_after w b e lp).replies
once w b (OfCall row move) lp =
    let x : Lp = call_lp w b row move lp in
    subst (λ (rs : List Reply). IsOneMore rs (settle x.call.phase x.call.held x).replies) (same_replies w b row move lp) (settled_once x.call.phase x.call.held x)
once w b (OfOperation row move) lp = inl refl
once w b (Walks access gpa) lp = inl refl
once w b (Reaches t v access r gpa page) lp = inl refl
once w b (Leaves v out) lp = inl refl

one_by_one : (s : State) (p : ℕ) (x : Option Event) → IsOneMore (s.lps p).replies ((after_event p s x).lps p).replies
one_by_one s p None = inl refl
one_by_one s p (Some e) =
    subst (λ (lp : Lp). IsOneMore (s.lps p).replies lp.replies) (sym (after_here p s e)) (once s.world (is_granted s e) e (s.lps p))

pub replies_one_by_one : RepliesComeOneByOne
replies_one_by_one o s p = one_by_one s p (next_event o s p)

-- an event needs a line that has no reply yet

some_left : (k : ℕ) (calls : List Call) (c : Call) (cs : List Call) → drop k calls ≡ c ∷ cs → k < length calls
some_left zero [] c cs e = cc
some_left zero (x ∷ xs) c cs e = omega arith
some_left (suc k) [] c cs e = cc
some_left (suc k) (x ∷ xs) c cs e = let i = some_left k xs c cs e in omega arith

pub none_left : (k : ℕ) (calls : List Call) → drop k calls ≡ [] → length calls ≤ k
none_left k [] e = omega arith
none_left zero (x ∷ xs) e = cc
none_left (suc k) (x ∷ xs) e = let i = none_left k xs e in omega arith

at_line : (o : Opening) (w : World) (p : ℕ) (lp : Lp) (e : Event) (x : List Call) → lines_left o p lp ≡ x → event_for o w p lp x ≡ Some e → length lp.replies < length (calls_of o.calls p)
at_line o w p lp e [] left is = cc
at_line o w p lp e (c ∷ cs) left is = some_left (length lp.replies) (calls_of o.calls p) c cs left

more_by_one : (n : ℕ) (before after : List Reply) → length before < n → IsOneMore before after → length after ≤ n
more_by_one n before after i (inl same) = let e = ap length same in omega (arith, i, e)
more_by_one n before after i (inr (r, same)) = let e = ap length same in omega (arith, i, e, length-append before (r ∷ []))

step : (o : Opening) (s : State) (p : ℕ) (e : Event) → next_event o s p ≡ Some e → AreToLines o s → AreToLines o (after_event p s (Some e))
step o s p e is h q = by_test (q == p)
    (λ y. let here : p ≡ q = sym (eqb-true q p y) in
    subst (λ (x : ℕ). length ((after_event p s (Some e)).lps x).replies ≤ length (calls_of o.calls x)) here
    (more_by_one (length (calls_of o.calls p)) (s.lps p).replies ((after_event p s (Some e)).lps p).replies
    (at_line o s.world p (s.lps p) e (lines_left o p (s.lps p)) refl is) (one_by_one s p (Some e))))
    (λ n. rw n (h q))

pub replies_kept : RepliesAreKept
replies_kept = record {
  start = λ o ws q. omega arith;
  event = λ o bundles s p h. event_keeps (with_bundles o bundles) (AreToLines o) (step (with_bundles o bundles)) s p h;
}

pub replies_to_lines : RepliesAreToLines
replies_to_lines = in_runs AreToLines replies_kept

ended : (o : Opening) (w : World) (p : ℕ) (lp : Lp) (x : List Call) → lines_left o p lp ≡ x → event_for o w p lp x ≡ None → length (calls_of o.calls p) ≤ length lp.replies
ended o w p lp [] left is = none_left (length lp.replies) (calls_of o.calls p) left
ended o w p lp (c ∷ cs) left is = cc

pub every_line_answered : EveryLineIsAnswered
every_line_answered o ws schedule p =
    let s : State = run_telling ws o schedule in
    let most = replies_to_lines o ws (schedule ++ to_the_end 0 o.calls) p in
    let least = ended o s.world p (s.lps p) (lines_left o p (s.lps p)) refl (runs_end o ws schedule p) in
    omega (arith, most, least)
